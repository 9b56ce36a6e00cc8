mod Longest
mod Lines
