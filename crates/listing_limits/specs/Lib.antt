-- What is refused of a listing.
pub mod Shortage
