pub mod Chains
pub mod Cycles
pub mod Kept
pub mod Rows
pub mod Steps
