pub mod Encoding
pub mod Refusals
pub mod Answered
pub mod Groups
