pub mod Places
pub mod LineCuts
pub mod WordCuts
