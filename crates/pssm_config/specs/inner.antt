pub mod Clearing
pub mod Finishing
