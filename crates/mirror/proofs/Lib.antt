pub mod Bits
pub mod Back
pub mod Changed
pub mod Within
pub mod Limits
pub mod Trip
pub mod Written
