pub mod Gregorian
pub mod Week
pub mod Holidays
pub mod Peak
pub mod DeliveryYear
pub mod Laws
pub mod Figures
