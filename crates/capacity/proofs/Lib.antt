pub mod AllFigures
pub mod Capacities
pub mod Bounds
pub mod Formulas
pub mod Nets
