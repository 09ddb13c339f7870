pub mod Kept
pub mod Meanings
pub mod Parts
pub mod ReadOut
