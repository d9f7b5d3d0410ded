pub mod Faultless
pub mod Fitted
pub mod Fitting
pub mod FittingLines
pub mod Looked
pub mod TextNames
pub mod ReadBack
pub mod Utf8
