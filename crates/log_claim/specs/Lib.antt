-- Lists of calls, then what is claimed of them.
pub mod Sequences
pub mod Claim
