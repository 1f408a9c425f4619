pub mod Shows
pub mod Written
pub mod Editions
pub mod Codec
pub mod EachKind
pub mod Example
