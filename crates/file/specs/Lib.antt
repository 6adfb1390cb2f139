pub mod File
pub mod Reading
pub mod Damage
pub mod Claim
pub mod Causes
