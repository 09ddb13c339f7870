pub mod Derivation
pub mod Examples
