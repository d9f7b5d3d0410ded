pub mod Above
pub mod Children
pub mod Finding
pub mod Growth
pub mod Naming
pub mod PartEq
pub mod Watched
