mod Claimed
mod Whole
pub mod Numbered
mod Told
mod Finding
mod Rising
