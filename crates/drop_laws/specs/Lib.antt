pub mod Laws
pub mod Ranked
pub mod Ready
pub mod Rungs
