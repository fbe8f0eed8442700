pub mod Codes
pub mod Names
pub mod Coded
