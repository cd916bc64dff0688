-- Laws, each file after those that it rests on; the claims are gathered in Claims.
pub mod ArchiveTells
pub mod Claims
