pub mod Latest
pub mod Upper
