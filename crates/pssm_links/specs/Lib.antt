pub mod Chained
pub mod inner
