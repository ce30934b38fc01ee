pub mod ListLaws
pub mod ReachLaws
pub mod TotalLaws
pub mod DraftLaws
pub mod MarkLaws
pub mod CircleLaws
