pub mod Factlist
