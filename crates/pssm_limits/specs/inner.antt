pub mod Counts
pub mod Ways
pub mod Variables
pub mod Past
