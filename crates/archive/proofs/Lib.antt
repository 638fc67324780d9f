pub mod Lengths
pub mod Walking
pub mod Archive
pub mod Listing
