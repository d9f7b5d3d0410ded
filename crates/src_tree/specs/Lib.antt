pub mod Grammar
pub mod Layout
pub mod Reading
pub mod Laws
pub mod View
pub mod Table
pub mod Checking
