pub mod Forms
pub mod Rules
pub mod Faults
pub mod Latest
pub mod Broken
pub mod inner
