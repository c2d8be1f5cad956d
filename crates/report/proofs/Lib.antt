pub mod Texts
pub mod Passing
pub mod Joined
pub mod Through
