-- Laws that several proofs of this crate rest on.
pub mod Times
pub mod Moved
