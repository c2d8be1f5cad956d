pub mod Quantities
pub mod AreaMoney
pub mod Lines
pub mod Laws
pub mod Figures
