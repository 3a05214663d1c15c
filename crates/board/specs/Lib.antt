pub mod Status
pub mod Refusals
pub mod Held
