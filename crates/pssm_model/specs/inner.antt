pub mod Depths
pub mod Tables
pub mod Listed
pub mod Faultless
