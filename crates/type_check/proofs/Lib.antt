pub mod BodyForms
pub mod EachItem
pub mod Outside
pub mod KindForms
pub mod KindWalk
pub mod Starting
pub mod SelfForms
