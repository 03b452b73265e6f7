pub mod Slots
pub mod Filled
pub mod Forms
pub mod Literal
