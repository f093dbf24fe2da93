pub mod Apdus
pub mod Fronts
pub mod Exact
pub mod Stream
pub mod EachOctet
pub mod WorkedExamples
pub mod Following
mod Resuming
