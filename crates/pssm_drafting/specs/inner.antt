pub mod Waiting
pub mod Objects
