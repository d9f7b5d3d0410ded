pub mod Access
pub mod AccessInPieces
pub mod AccessOneStep
pub mod Datum
pub mod DropMeasure
pub mod OnePart
pub mod Serials
pub mod Wholeness
