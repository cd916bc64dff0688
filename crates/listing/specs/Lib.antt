-- In the order in which to read them.
pub mod Lines
pub mod Claims
