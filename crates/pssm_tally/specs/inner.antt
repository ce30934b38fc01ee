pub mod Distinct
pub mod Objects
pub mod Parameters
pub mod Steps
