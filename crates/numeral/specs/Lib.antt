pub mod Decimal
pub mod Hex
