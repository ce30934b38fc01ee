pub mod Trees
pub mod Reading
pub mod Cuts
pub mod Growth
pub mod Stores
pub mod Frames
pub mod Reads
pub mod Links
