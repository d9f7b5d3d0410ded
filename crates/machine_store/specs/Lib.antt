pub mod Activations
pub mod Frames
pub mod Marks
pub mod Standing
