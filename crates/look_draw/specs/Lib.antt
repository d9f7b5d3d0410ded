pub mod Drawings
pub mod Origins
pub mod Steps
pub mod Ways
