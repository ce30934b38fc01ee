pub mod Texts
pub mod Elements
pub mod FirstValues
pub mod inner
