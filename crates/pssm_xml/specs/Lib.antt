pub mod Characters
pub mod Pieces
pub mod Documents
pub mod Elements
pub mod TextFaults
pub mod Faults
pub mod inner
