pub mod History
pub mod Soundness
