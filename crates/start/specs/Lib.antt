pub mod Start
pub mod Copies
pub mod private
