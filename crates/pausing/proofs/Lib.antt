mod Turning
mod Accepting
mod Calls
