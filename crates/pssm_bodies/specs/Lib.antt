pub mod Slots
pub mod Readings
pub mod Faults
pub mod Programs
pub mod Fitting
pub mod inner
