pub mod Payloads
pub mod Sealing
