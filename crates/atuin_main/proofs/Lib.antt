mod Fits
mod Numbers
mod Causes
mod Exact
