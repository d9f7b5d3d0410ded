pub mod Forms
pub mod Had
