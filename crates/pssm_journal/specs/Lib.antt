pub mod Entries
pub mod Naming
pub mod Judged
pub mod Briefs
pub mod inner
