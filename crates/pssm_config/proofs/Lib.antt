pub mod Putting
pub mod Holding
pub mod Entering
pub mod Exiting
pub mod Resting
pub mod Clearing
pub mod Finishing
pub mod Filling
