pub mod AllFigures
pub mod Balance
pub mod Bounds
pub mod Dues
pub mod Sixteen
pub mod Lowered
