pub mod EachIsRead
pub mod LineByLine
pub mod NumberTables
pub mod Rows
pub mod Spans
pub mod Values
pub mod Complete
pub mod Depth
pub mod FoundRows
pub mod Given
pub mod Leaves
pub mod PlainNumbers
pub mod Sound
pub mod Splits
pub mod Texts
pub mod DepthFree
mod OpenTypes
mod OpenEnds
mod OpenSteps
