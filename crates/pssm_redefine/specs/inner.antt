pub mod Gathered
pub mod Merges
