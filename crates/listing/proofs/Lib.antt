mod Listed
mod Examples
pub mod Printed
pub mod LineLaws
