pub mod Bytes
pub mod Kinds
pub mod Format
pub mod Framed
pub mod Nodes
pub mod Numbers
pub mod Written
