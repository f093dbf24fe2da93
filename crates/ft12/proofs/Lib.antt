mod Lists
mod Frames
mod Beginnings
mod Returns
mod Exact
mod Stream
mod Spoiling
mod Stages
mod Computed
mod Examples
mod Following
pub mod Rooms
mod Resuming
