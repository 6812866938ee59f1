mod Blocks
mod Bytes
mod Columns
mod Rounds
mod Pieces
pub mod StreamLaws
