pub mod PulseLaws
pub mod UnitLaws
