pub mod Law
pub mod Lines
pub mod Lookup
pub mod Parts
pub mod PartsLaw
pub mod Table
