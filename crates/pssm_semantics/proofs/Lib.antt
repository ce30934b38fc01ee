pub mod Appended
pub mod Views
pub mod Meaning
pub mod Blocks
pub mod ArgumentLaws
pub mod ProperSettings
pub mod Changes
