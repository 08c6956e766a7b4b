mod Places
mod Digits
mod Listing
