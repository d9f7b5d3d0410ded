pub mod Analysed
pub mod AtDrops
pub mod Known
pub mod Passing
pub mod Plans
pub mod Shapes
pub mod Tables
pub mod Trees
