pub mod CallLaws
pub mod KnownBytes
pub mod TransferLaws
