pub mod Refusal
pub mod Outcome
pub mod Promise
pub mod Shown
