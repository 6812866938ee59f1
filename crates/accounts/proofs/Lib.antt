mod Digits
mod FirstLine
mod NextLine
mod Owners
