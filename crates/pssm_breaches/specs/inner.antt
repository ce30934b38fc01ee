pub mod Firsts
pub mod Latest
pub mod Ends
pub mod Walks
