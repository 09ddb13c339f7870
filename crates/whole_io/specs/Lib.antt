pub mod Calls
pub mod Transfers
