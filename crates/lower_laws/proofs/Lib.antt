pub mod Known
pub mod Cells
pub mod Types
pub mod Order
pub mod Items
pub mod Bodies
pub mod Whole
mod Examples
pub mod Base
pub mod Rules
pub mod Patterns
pub mod Names
pub mod Branches
mod Fields
pub mod MovedOut
pub mod FormTypes
pub mod FormValues
pub mod FormEffects
pub mod FormPlaces
pub mod FormStatements
pub mod FormBranching
pub mod Forms
pub mod LineCells
pub mod Facts
pub mod WholeLines
pub mod AcceptedWhole
mod Clean
mod Ends
pub mod Exact
pub mod Law
mod Numbers
mod Stopping
mod Done
pub mod UseLaw
mod Listed
mod SitedLines
mod Allowing
mod Blocks
mod Coming
pub mod Elsewhere
mod PathExamples
mod Following
mod Taking
pub mod WalkLaw
mod Leaving
pub mod Lines
pub mod Performing
mod Watching
