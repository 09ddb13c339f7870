pub mod Slot
pub mod Calls
pub mod Sequences
