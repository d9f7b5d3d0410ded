mod AreWellTyped
mod Bare
mod SameTrees
