pub mod Trees
pub mod Walk
pub mod Takes
pub mod Spacing
pub mod Completions
pub mod Reaches
pub mod Formulas
pub mod Earned
