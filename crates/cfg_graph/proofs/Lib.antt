pub mod AllPresent
pub mod AskedOfLines
pub mod AskedOfLists
pub mod Buckets
mod Examples
pub mod FiniteSize
pub mod FiniteTypes
pub mod FirstBroken
pub mod Growing
pub mod InfiniteSize
pub mod OneKind
pub mod NoFaults
pub mod Noting
pub mod Present
pub mod Ranked
pub mod Rests
pub mod WholePlaces
