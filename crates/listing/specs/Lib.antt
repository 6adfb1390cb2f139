pub mod Listing
pub mod Claim
pub mod private
