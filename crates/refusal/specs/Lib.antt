pub mod Numbers
pub mod Literal
