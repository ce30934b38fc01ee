pub mod History
pub mod Tasks
pub mod Works
pub mod inner
