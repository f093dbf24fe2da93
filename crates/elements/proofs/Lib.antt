pub mod TypeCodes
pub mod Moments
mod StandardTables
mod Faults
