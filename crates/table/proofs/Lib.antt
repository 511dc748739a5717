pub mod Answering
pub mod Cycles
pub mod Moving
pub mod Picking
pub mod Rests
pub mod RoundsAsSets
pub mod RowByRow
