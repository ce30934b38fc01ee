pub mod IntegerReading
pub mod Noted
