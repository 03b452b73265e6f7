pub mod Words
pub mod Reading
pub mod Images
pub mod Vectors
pub mod Plain
