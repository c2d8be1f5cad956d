pub mod Facts
pub mod Hours
pub mod Days
pub mod Refusal
pub mod Dues
pub mod Rules
pub mod Laws
