pub mod Values
pub mod Numbers
pub mod Leaves
pub mod Examples
