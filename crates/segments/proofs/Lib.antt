pub mod CrashLemmas
pub mod SegmentLemmas
pub mod HeldLemmas
pub mod HeadLemmas
pub mod Fronts
pub mod Sealed
pub mod Crashes
