mod Elements
mod Grouped
mod OfOperands
mod Params
mod Statements
mod Whole
