pub mod Finishing
pub mod Jobs
