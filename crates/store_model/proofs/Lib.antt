pub mod Abstract
pub mod Concrete
pub mod Effects
pub mod Values
