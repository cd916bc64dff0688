-- In the order in which to read them.
pub mod Interface
pub mod Claims
