pub mod SpellingLaws
pub mod WordNumbers
pub mod FrontLaws
pub mod NameLaws
pub mod Runs
pub mod DigitRuns
pub mod NumberReading
