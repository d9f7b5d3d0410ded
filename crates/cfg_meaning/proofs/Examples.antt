-- Graphs that were worked out by hand, and runs of them closed by computation.
mod DropBodies
mod Objects
mod Parts
mod Short
mod Unwinding
pub mod Words
