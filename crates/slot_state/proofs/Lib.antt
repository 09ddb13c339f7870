pub mod States
pub mod Accepted
