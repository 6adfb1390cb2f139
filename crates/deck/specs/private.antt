-- What the crate's own functions come to. No promise to a caller cites these.
pub mod Ready
