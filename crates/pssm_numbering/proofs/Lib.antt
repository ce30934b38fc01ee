pub mod ChildLaws
pub mod VariableLaws
pub mod ListLaws
pub mod MachineLaws
pub mod GroupLaws
pub mod SiblingLaws
