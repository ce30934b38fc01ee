pub mod Following
pub mod Judging
pub mod Answers
pub mod Pieces
