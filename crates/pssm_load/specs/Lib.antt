pub mod Loads
pub mod inner
pub mod ReadBack
