pub mod Accepted
pub mod ExactDrops
pub mod ExactRuns
pub mod Fewer
pub mod Finding
pub mod FirstBad
pub mod Programs
pub mod Refusals
pub mod Sited
pub mod SoundPrograms
mod Source
pub mod Unread
mod Watched
