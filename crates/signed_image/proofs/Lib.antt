pub mod Flags
pub mod Images
pub mod ByNumber
pub mod RoundTrips
