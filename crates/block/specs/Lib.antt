pub mod Block
pub mod Reading
pub mod Looking
pub mod Damage
pub mod Claim
pub mod private
