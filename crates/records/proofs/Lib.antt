pub mod Frames
pub mod FormatLaws
pub mod OneKind
pub mod Strings
pub mod FirstRecords
pub mod WrittenHours
