mod Cutting
mod TooLong
mod Shown
