pub mod Rows
pub mod Making
pub mod DoorCalls
pub mod Ticks
pub mod Rooms
