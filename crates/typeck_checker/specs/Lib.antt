pub mod Tables
pub mod BodyScope
pub mod Stand
pub mod Forms
pub mod Lists
pub mod Variables
pub mod Scopes
pub mod Local
