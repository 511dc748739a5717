pub mod Chains
pub mod Places
pub mod Halting
pub mod Answered
