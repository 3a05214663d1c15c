pub mod Row
pub mod Simulated
pub mod Calls
pub mod Tick
pub mod Shown
