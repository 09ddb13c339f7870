pub mod State
pub mod Rules
