pub mod Listings
pub mod Readers
