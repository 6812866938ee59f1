pub mod Tallies
pub mod Admission
