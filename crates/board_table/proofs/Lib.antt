mod Cuts
mod Joined
mod Says
