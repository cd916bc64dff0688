-- Laws, each file after those that it rests on.
pub mod Digits
