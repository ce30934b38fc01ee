pub mod SayingLaws
pub mod CountingLaws
pub mod FirstLaws
pub mod ChildLaws
pub mod TextLaws
pub mod VariableLaws
