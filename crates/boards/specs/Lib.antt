pub mod Terminals
pub mod Making
pub mod Bytes
pub mod Plain
pub mod Loop
pub mod Sound
