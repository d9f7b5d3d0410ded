pub mod Lowerable
pub mod Laws
pub mod Lines
pub mod Accepted
pub mod Refused
pub mod Told
pub mod Meets
pub mod Given
