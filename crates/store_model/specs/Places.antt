pub mod Place
pub mod TypeForms
