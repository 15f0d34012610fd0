mod Turning
mod Feeding
mod Lining
mod Showing
