pub mod Suspending
