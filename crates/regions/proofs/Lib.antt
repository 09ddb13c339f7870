pub mod Regions
pub mod Judgements
pub mod Operations
pub mod RwRegions
pub mod RoundTrips
