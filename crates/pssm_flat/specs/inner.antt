pub mod Outlines
pub mod Lines
pub mod Places
