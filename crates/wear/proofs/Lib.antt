mod Steps
mod ClassLaws
pub mod WalkLaws
mod Walking
mod Adding
pub mod Claims
pub mod Causing
