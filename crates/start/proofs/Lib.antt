mod Searching
pub mod StartLaws
pub mod CopiesLaws
