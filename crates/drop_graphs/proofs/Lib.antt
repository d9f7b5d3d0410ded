pub mod AllGone
pub mod Bodies
pub mod Copied
pub mod Faultless
