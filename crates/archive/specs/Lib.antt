-- In the order in which to read them. `Inner` is for the contracts of private functions alone.
pub mod Renaming
pub mod Content
pub mod Form
pub mod Answers
pub mod Claims
pub mod Inner
pub mod Examples
