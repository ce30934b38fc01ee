pub mod Claims
pub mod Keeping
pub mod Nexts
pub mod Comparing
pub mod Coming
