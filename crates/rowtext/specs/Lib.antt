pub mod Claims
pub mod Faults
pub mod Format
pub mod Steps
