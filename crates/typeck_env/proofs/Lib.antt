pub mod Slots
pub mod Keys
pub mod LoopsAround
pub mod ImplPairs
pub mod MemberNames
pub mod Walking
