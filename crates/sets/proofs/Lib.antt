pub mod Bits
pub mod Equality
pub mod LowestBit
pub mod Sizes
pub mod Taking
pub mod Words
