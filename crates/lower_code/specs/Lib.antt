pub mod Code
pub mod Forms
pub mod Groups
pub mod Ops
pub mod View
pub mod Wanted
