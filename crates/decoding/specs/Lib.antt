pub mod Field
pub mod Said
pub mod Line
