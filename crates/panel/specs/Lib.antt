pub mod Look
pub mod Calls
