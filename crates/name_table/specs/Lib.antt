pub mod Forms
pub mod Walked
pub mod AdtForms
pub mod Holding
pub mod Collects
