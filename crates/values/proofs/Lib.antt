-- The laws that several proofs cite.
pub mod Told
