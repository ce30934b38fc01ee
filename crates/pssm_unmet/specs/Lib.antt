pub mod References
pub mod Unmet
pub mod inner
