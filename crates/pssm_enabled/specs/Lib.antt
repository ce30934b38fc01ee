pub mod Telling
pub mod Starts
pub mod Ways
pub mod Steps
pub mod Fitting
pub mod Behind
pub mod inner
