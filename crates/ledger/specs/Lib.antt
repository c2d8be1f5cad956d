pub mod Unread
pub mod Input
pub mod Answers
