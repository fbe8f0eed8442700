pub mod Parsed
pub mod Number
pub mod Reading
pub mod Meaning
