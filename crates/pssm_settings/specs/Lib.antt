pub mod Names
pub mod Settings
pub mod Failures
pub mod inner
