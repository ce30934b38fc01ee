pub mod Children
pub mod Tables
