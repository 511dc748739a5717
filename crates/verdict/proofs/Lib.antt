pub mod TwoTruths
