pub mod Run
pub mod Steady
pub mod Law
pub mod Shown
