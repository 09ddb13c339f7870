pub mod Nested
pub mod Width
pub mod Bytes
pub mod Sizes
pub mod Numbers
pub mod Integers
