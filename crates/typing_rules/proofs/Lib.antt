pub mod Accepted
mod Forms
pub mod LeastSet
mod Cases
mod Refusals
pub mod Sound
pub mod Words
