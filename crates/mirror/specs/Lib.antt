pub mod Record
pub mod Apply
pub mod Reading
pub mod Mirrored
pub mod Ranges
