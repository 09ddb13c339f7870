pub mod Comparison
pub mod Shown
