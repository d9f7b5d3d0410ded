pub mod Effects
pub mod OfBody
