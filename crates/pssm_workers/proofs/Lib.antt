pub mod Crossing
pub mod EndLaws
