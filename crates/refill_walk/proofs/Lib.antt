mod Octs
mod Places
mod Again
mod Steps
mod Ends
mod Counts
mod Results
