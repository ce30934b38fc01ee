pub mod LineReading
pub mod Lines
pub mod Batches
