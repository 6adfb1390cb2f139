pub mod Parity
pub mod PairLaws
mod QuarterLaws
pub mod Stores
pub mod CodingLaws
pub mod ByteLaws
pub mod CauseLaws
pub mod Causing
mod FrameLaws
pub mod DamageLaws
pub mod Matching
