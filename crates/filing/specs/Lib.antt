pub mod Slots
pub mod Entries
pub mod Forms
pub mod Literal
