pub mod Alone
pub mod NamedLines
pub mod NamedKept
pub mod NamedFrames
pub mod NamedPassing
pub mod NamedSource
pub mod NamedApart
pub mod NamedArgs
pub mod NamedSaying
pub mod NamedTogether
pub mod NamedPlain
pub mod NamedGraph
pub mod NamedByRuns
mod NamedExamples
pub mod NamedOfLowered
pub mod NamedStays
pub mod NamedWatch
pub mod Noting
pub mod PathFollow
pub mod PathGoes
pub mod PathRun
pub mod PathWatch
pub mod PathWays
pub mod Prepared
mod AloneParts
mod CellKeys
mod Counted
mod Once
mod OnceActs
mod OnceCounts
mod OnceOperators
mod OnceBranching
mod OnceForms
mod OnceNodes
mod OnceParts
mod OncePatterns
mod OnceRules
mod OnceStanding
mod References
mod OnceUses
pub mod NamedUsed
pub mod NamedTyped
