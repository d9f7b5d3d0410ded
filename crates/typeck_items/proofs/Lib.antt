pub mod Steps
pub mod Counted
pub mod NameLists
pub mod PairLists
pub mod FieldForms
pub mod ParamForms
pub mod VariantForms
pub mod ItemForms
pub mod ItemAnswers
mod Lists
mod Named
