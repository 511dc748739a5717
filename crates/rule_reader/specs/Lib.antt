pub mod Halts
pub mod Ahead
pub mod Chains
