pub mod LineText
pub mod Grammar
pub mod Parts
pub mod Faults
pub mod Reading
pub mod inner
