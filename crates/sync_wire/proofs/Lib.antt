pub mod Exchanges
pub mod Pages
