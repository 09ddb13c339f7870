-- what the functions' proofs cite
pub mod States
pub mod Accepted
pub mod Parts
-- the claim
pub mod Steps
pub mod Stays
pub mod Reading
pub mod Claim
pub mod Examples
