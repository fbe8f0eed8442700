pub mod Faults
pub mod Meaning
pub mod Delivery
pub mod Columns
pub mod Entries
pub mod EntryLists
pub mod Gathering
pub mod Examples
