-- Reading a text from its front. Each reader answers what it found there, with what stands behind it, or that no such
-- thing is there. It finds all that is written, before whatever ends it, and may find more: a number with a zero before
-- it, or a name that nothing has.
pub mod Lines
pub mod Parts
pub mod Rows
pub mod Words
