pub mod Asked
mod GoingOn
