pub mod Stimuli
pub mod Counts
pub mod Contents
pub mod Works
pub mod Claiming
pub mod Committing
pub mod inner
