pub mod Claims
pub mod Meaning
