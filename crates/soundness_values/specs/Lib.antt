pub mod Frames
pub mod Laws
pub mod RunCalls
pub mod Typed
