mod Bits
pub mod Spans
