pub mod Queue
pub mod Standing
pub mod Coming
pub mod Following
pub mod Doing
pub mod Tasks
pub mod Laws
pub mod inner
