pub mod LiveLemmas
pub mod SettingsLemmas
pub mod StationLemmas
pub mod UnknownLemmas
pub mod SiteKeyLemmas
pub mod SiteNameLemmas
pub mod SiteLemmas
pub mod SiteUnknownLemmas
