pub mod FirstLaws
pub mod ReferenceLaws
pub mod UnmetLaws
