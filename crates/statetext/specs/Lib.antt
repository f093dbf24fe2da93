pub mod Text
pub mod Sum
pub mod Sealed
