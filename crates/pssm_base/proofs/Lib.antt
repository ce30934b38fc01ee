pub mod Histories
pub mod Once
pub mod Pieces
pub mod ThroughReal
pub mod Untold
