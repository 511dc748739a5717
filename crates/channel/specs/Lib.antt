pub mod Claims
pub mod Faults
pub mod Files
pub mod Listing
pub mod RuleLines
pub mod Steps
