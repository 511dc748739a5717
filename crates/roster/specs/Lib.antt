pub mod Books
pub mod Entries
pub mod Lays
pub mod Lending
pub mod Opens
pub mod Plain
pub mod Showing
