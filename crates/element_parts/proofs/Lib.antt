pub mod Verdicts
pub mod Items
pub mod Heads
