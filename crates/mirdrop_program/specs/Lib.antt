pub mod Laws
pub mod Owed
pub mod Refusals
pub mod TopCall
pub mod Written
pub mod Reads
pub mod Words
pub mod Lines
