pub mod Finding
pub mod StepsTold
pub mod ThreePut
