-- one call, lists of calls, runs of records
pub mod Steps
pub mod Sequences
pub mod Records
-- the claim
pub mod Demand3
pub mod Examples
