pub mod Ends
pub mod Opened
pub mod Describing
pub mod Noting
pub mod Pages
pub mod Driven
