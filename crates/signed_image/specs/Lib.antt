pub mod SignedImage
pub mod Parts
pub mod ByNumber
pub mod Walks
pub mod RoundTrips
