pub mod Counts
pub mod Kinds
pub mod Flaws
pub mod Faults
pub mod inner
