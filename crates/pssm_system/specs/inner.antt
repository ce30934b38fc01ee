pub mod Pooling
pub mod Deferring
pub mod Keeping
pub mod Choosing
pub mod Judging
pub mod Stepping
pub mod Telling
