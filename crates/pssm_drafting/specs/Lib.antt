pub mod Drafts
pub mod Fitting
pub mod inner
