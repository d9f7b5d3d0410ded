pub mod Forest
pub mod Trie
pub mod Uses
pub mod Watch
