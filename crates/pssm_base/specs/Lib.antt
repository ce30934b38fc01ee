pub mod Faults
pub mod History
pub mod Memory
pub mod Outside
pub mod Putting
pub mod Reading
pub mod inner
