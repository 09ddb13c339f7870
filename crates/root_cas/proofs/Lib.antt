pub mod Roots
pub mod ByNumber
pub mod RoundTrips
