pub mod Length
mod Verdict
