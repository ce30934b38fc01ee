pub mod Told
pub mod Chained
pub mod Spans
pub mod Callers
