pub mod Asked
pub mod Filled
