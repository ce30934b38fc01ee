pub mod Started
pub mod Fitting
pub mod Passing
pub mod Seeking
pub mod Trails
pub mod Behind
pub mod Down
