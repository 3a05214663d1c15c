pub mod Fault
pub mod Read
