pub mod Entering
mod Examples
pub mod Fresh
pub mod InForm
pub mod OneName
pub mod Naming
pub mod Params
pub mod PartsLines
pub mod PartsRows
pub mod PartsRules
pub mod PartsRuns
pub mod Passing
pub mod Positions
pub mod Putting
pub mod Rules
pub mod Runs
pub mod SameRules
pub mod Waiting
