pub mod ReaderLaws
mod Writing
mod Loading
pub mod FileLaws
pub mod Telling
pub mod Demand3
pub mod NotEmpty
pub mod NeverNoise
