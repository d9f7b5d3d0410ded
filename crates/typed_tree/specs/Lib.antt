pub mod Laws
pub mod Nodes
pub mod Tree
pub mod View
pub mod Branches
pub mod Listed
