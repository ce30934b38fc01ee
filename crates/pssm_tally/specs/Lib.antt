pub mod Tallies
pub mod inner
