pub mod Chains
pub mod Elements
pub mod Becoming
pub mod Faults
pub mod Numbers
pub mod Heritages
pub mod inner
