pub mod Access
pub mod Datum
pub mod DropMeasure
pub mod Parts
pub mod Wholeness
