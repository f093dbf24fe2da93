pub mod Sheets
pub mod Visits
