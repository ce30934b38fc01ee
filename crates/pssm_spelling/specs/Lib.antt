pub mod Spelling
pub mod SpellingReading
pub mod Numbers
pub mod Fronts
