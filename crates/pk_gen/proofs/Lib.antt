mod Keys
mod Values
mod Wholes
