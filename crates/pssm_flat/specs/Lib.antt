pub mod Text
pub mod Flat
pub mod Faults
pub mod inner
