pub mod Quantities
pub mod Shortfall
pub mod Shares
pub mod Laws
pub mod Figures
