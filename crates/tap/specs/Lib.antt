pub mod Tap
pub mod Reading
pub mod Claim
pub mod private
