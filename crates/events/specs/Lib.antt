pub mod Queue
pub mod Ring
pub mod Pieces
pub mod Runs
pub mod Restored
pub mod Carried
