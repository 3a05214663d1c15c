pub mod Alarm
pub mod PerTransition
pub mod Event
