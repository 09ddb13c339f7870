pub mod Claim
pub mod Legacy
