pub mod Walk
pub mod Report
pub mod Claim
pub mod private
