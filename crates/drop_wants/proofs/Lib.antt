pub mod Agreeing
mod Changing
pub mod Chosen
pub mod Flagging
pub mod Marking
pub mod Numbering
pub mod Renumbering
mod Turned
