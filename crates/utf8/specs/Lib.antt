pub mod Unicode
pub mod States
pub mod Examples
