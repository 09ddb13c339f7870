pub mod CounterMode
pub mod Pairing
