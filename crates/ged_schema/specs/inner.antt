pub mod LineWalks
pub mod Listings
pub mod Lookups
pub mod Marks
