pub mod Carrying
pub mod Receiving
pub mod Points
