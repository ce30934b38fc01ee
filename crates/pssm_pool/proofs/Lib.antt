pub mod Looking
pub mod Linking
pub mod Fronts
