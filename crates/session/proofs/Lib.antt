pub mod Counters
pub mod States
pub mod Keeps
pub mod Standard
pub mod Obeyed
pub mod Ordered
mod ReadBack
pub mod Examples
pub mod Origins
pub mod Stops
