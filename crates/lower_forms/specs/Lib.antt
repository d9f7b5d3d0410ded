pub mod Parted
pub mod Scoped
