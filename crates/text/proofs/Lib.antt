pub mod Digits
pub mod Newlines
pub mod Cuts
pub mod Written
