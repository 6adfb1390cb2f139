-- What the crate's own functions come to. No promise to a caller cites these.
pub mod Flags
pub mod Values
pub mod Checks
pub mod Causes
pub mod Both
