-- In the order in which to read them. `Inner` is for the contracts of private functions alone.
pub mod Lists
pub mod Bounds
pub mod Records
pub mod Kinds
pub mod Plan
pub mod Refusals
pub mod Limits
pub mod Claims
pub mod Reading
pub mod Words
pub mod Tables
pub mod Inner
pub mod Examples
