-- Typed trees whose nodes get other numbers.
pub mod Nodes
pub mod Order
pub mod Rows
