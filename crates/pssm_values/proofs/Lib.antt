pub mod IntegerLaws
pub mod BodyLaws
pub mod IdLaws
pub mod GuardLaws
pub mod NameLaws
pub mod LabelLaws
