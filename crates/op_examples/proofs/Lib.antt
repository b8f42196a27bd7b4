mod Draws
mod Elections
pub mod Entries
mod Heartbeats
mod Majorities
mod Messages
mod Observers
mod Records
mod Requests
mod Services
mod Steps
