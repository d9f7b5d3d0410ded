pub mod DropExamples
pub mod Effects
pub mod MoreTicks
pub mod OneTickMore
