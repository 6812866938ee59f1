pub mod Nodes
pub mod Random
pub mod Faults
pub mod Events
