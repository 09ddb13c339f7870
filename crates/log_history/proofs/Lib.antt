-- registers and numbers of entries
pub mod Digest
pub mod Folds
-- entries, texts and buffers
pub mod Texts
pub mod Soundness
pub mod Buffers
