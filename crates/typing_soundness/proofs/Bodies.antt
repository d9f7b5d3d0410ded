-- Bodies that are whole.
pub mod Closures
pub mod Functions
pub mod Inner
pub mod Order
pub mod Params
pub mod Program
pub mod Types
pub mod Whole
