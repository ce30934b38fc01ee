pub mod Chaining
pub mod Fronts
pub mod Looks
