pub mod Ids
pub mod References
pub mod Roles
pub mod inner
