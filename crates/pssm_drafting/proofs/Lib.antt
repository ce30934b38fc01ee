pub mod WaitingLaws
pub mod ListLaws
pub mod OwnLaws
pub mod ObjectLaws
pub mod IndexLaws
