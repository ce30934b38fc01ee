pub mod Variables
pub mod Forms
pub mod Bodies
pub mod Merging
pub mod Groups
pub mod Gathering
pub mod Flattening
pub mod inner
