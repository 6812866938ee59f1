mod Rows
mod Turns
mod Walks
mod Finding
mod Digits
mod Asking
