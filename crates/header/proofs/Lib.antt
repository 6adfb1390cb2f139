mod Packing
mod Unpacking
pub mod HeaderLaws
