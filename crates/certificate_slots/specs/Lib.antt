pub mod Slots
pub mod Claim
