pub mod Byte
pub mod Cause
pub mod Damage
pub mod private
