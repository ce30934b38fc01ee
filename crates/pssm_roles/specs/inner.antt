pub mod Asked
pub mod Guards
pub mod Numbers
pub mod Seen
