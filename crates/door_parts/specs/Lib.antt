pub mod Settings
pub mod Commanded
pub mod Sensed
