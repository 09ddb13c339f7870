-- In the order of document 01, "Elements of the PFM".
pub mod Region
pub mod Meaning
pub mod RwRegion
pub mod RoundTrips
