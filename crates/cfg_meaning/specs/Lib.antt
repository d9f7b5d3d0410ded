pub mod Actions
pub mod Laws
pub mod Programs
pub mod Walk
