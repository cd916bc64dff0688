-- In the order in which to read them.
pub mod Records
pub mod Lines
pub mod Trips
pub mod Plans
pub mod Cases
pub mod Examples
