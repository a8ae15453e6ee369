pub mod late_checks
pub mod code_steps
pub mod room
