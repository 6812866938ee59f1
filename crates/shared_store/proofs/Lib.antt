pub mod PassTurns
pub mod StoreTurns
pub mod Opening
pub mod FixedParts
