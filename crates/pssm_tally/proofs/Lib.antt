pub mod KindLaws
pub mod ObjectLaws
pub mod BeforeLaws
pub mod NameLaws
pub mod ParameterLaws
pub mod TallyLaws
