pub mod LateStarts
pub mod inner
