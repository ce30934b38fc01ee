pub mod Numbering
pub mod Kinds
pub mod Lists
pub mod Meanings
pub mod inner
