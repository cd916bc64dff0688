-- Laws, each file after those that it rests on.
pub mod Powers
pub mod Gathering
pub mod Digits
