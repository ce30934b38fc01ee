pub mod Waits
pub mod Telling
pub mod inner
