pub mod EntryLine
pub mod Places
pub mod LineOuts
