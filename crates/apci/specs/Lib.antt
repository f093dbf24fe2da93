pub mod Spelling
pub mod Reading
pub mod Borrowed
pub mod Short
pub mod Assembly
pub mod Control
pub mod Progress
pub mod Examples
