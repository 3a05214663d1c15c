pub mod Runs
pub mod Steadied
