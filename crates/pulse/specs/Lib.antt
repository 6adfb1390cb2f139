pub mod Pulse
pub mod Figures
pub mod Units
