pub mod Lassos
pub mod RootParts
pub mod Trail
