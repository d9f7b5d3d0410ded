mod Limited
mod Zipped
mod Lists
mod Placed
mod Renumbered
pub mod ParamPlaces
pub mod Bodies
pub mod Answered
pub mod Rows
pub mod CaptureSequences
mod Types
pub mod ParamShapes
pub mod ParamSequences
