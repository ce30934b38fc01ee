pub mod Areas
pub mod Calls
pub mod LegsOf
pub mod inner
pub mod Transitions
