pub mod Counts
pub mod Through
