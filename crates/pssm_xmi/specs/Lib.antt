pub mod Faults
pub mod Faultless
pub mod inner
