pub mod Groups
pub mod Own
pub mod Places
pub mod View
