pub mod Printed
pub mod Passes
pub mod Buffers
pub mod Pieces
pub mod Laws
