pub mod Answered
pub mod Explanations
pub mod Sentences
pub mod Traces
pub mod Words
