pub mod Books
pub mod Entered
pub mod Days
pub mod Runs
pub mod Seen
pub mod Steps
