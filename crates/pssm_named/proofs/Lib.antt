pub mod ListLaws
pub mod KindLaws
pub mod RoleLaws
pub mod DraftLaws
