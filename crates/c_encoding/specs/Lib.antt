pub mod Answers
pub mod Slots
pub mod Messages
pub mod Roles
pub mod Logs
pub mod LogLaws
pub mod Comparisons
pub mod Laws
