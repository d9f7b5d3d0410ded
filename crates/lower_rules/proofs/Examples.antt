-- Programs that were worked out by hand, lowered by computation, and the runs of their raw graphs.
mod Drops
mod Jumps
mod Matches
mod Sites
mod Uses
mod Words
