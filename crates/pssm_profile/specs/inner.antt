pub mod Counting
pub mod Children
pub mod Texts
pub mod Numbers
