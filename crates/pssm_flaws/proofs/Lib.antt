pub mod FlawLaws
pub mod PassLaws
