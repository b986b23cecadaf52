-- What is proved of the reader's definitions.
pub mod WordLaws
pub mod TrialLaws
pub mod ScanLaws
pub mod StatusLaws
pub mod LineLaws
pub mod FeedLaws
pub mod Kept
pub mod Whole
pub mod Decided
pub mod Said
pub mod Told
