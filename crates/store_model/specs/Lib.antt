pub mod Abstract
pub mod Concrete
pub mod Effects
pub mod Laws
pub mod Places
pub mod Values
