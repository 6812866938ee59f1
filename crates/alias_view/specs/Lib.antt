pub mod Aliases
