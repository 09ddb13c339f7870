pub mod RootCas
pub mod Hashes
pub mod ByNumber
pub mod Walks
pub mod RoundTrips
