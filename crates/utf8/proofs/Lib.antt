mod Classes
mod Feeding
mod Examples
pub mod Sequences
