pub mod Slots
pub mod SlotSteps
pub mod Logs
pub mod LogLaws
pub mod ComparisonBytes
