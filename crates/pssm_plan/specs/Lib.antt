pub mod Agenda
pub mod Waiting
pub mod Ways
pub mod Plans
pub mod Standings
pub mod Steadiness
pub mod Steps
pub mod inner
