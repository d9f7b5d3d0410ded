pub mod Once
pub mod Unrefused
pub mod Programs
pub mod Soak
