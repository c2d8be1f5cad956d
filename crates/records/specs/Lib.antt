pub mod Format
pub mod Kinds
pub mod Decoded
pub mod Written
pub mod Stream
pub mod Laws
