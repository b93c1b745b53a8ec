mod Numbers
mod Places
mod Limit
