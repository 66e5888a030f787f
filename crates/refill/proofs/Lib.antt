mod Flagged
mod States
