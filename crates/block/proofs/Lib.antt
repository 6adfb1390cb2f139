mod Countdowns
mod FlagLaws
mod ValueLaws
mod Writing
mod Summing
mod Checking
mod CauseCounts
mod Counting
mod Filling
mod Answers
mod Looks
pub mod BlockLaws
pub mod ReadingLaws
mod RuleLaws
pub mod LookingLaws
pub mod Telling
pub mod DamageLaws
