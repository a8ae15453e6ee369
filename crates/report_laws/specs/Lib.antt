pub mod Names
pub mod Read
pub mod Proper
