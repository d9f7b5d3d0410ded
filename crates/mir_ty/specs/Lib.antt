pub mod AreItems
pub mod DropBodies
pub mod Facts
pub mod ItemTable
pub mod Known
pub mod Named
pub mod Parts
pub mod Tables
