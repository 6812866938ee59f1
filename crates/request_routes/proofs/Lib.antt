pub mod Asking
mod Bodies
mod Digits
mod Values
