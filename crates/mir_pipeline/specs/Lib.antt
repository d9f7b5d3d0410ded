pub mod Building
pub mod Built
pub mod Graphs
pub mod Programs
pub mod Runs
pub mod Trees
