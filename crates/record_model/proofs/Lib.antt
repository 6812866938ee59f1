mod Digits
mod Hyphens
mod Reading
