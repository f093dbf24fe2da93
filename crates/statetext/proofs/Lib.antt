pub mod TextLemmas
pub mod Rotten
pub mod OneText
pub mod Seals
pub mod Sealing
pub mod Reading
pub mod Torn
