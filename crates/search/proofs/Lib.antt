pub mod Passing
pub mod Shares
pub mod Successors
