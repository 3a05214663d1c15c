pub mod Value
pub mod Sounder
pub mod Priority
pub mod PriorityArray
pub mod Timed
