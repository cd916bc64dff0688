-- In the order in which to read them. `Inner` is for the contracts of private functions alone.
pub mod Branching
pub mod Search
pub mod Answers
pub mod Values
pub mod Claims
pub mod Inner
pub mod Examples
