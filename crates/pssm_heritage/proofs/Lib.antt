pub mod ChainLaws
pub mod WalkLaws
pub mod ElementLaws
pub mod RowLaws
pub mod NumberLaws
pub mod OneLaws
pub mod SomeLineage
