pub mod OutcomeLaws
pub mod PromiseLaws
