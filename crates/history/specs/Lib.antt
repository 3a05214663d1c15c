pub mod Views
pub mod Kept
pub mod DoorCalls
pub mod SounderCall
pub mod Ticks
pub mod Reports
