-- Laws, each file after those that it rests on.
pub mod Scan
pub mod Puts
pub mod Bases
