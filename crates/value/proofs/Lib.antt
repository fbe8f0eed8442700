mod Signs
mod Readings
pub mod Bytes
mod Samples
