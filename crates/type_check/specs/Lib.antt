pub mod Forms
pub mod Checks
pub mod Kinds
pub mod Start
pub mod SelfMethods
