pub mod Calls
pub mod Running
pub mod Verdicts
pub mod Failures
pub mod Commands
