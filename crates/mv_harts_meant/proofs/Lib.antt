mod Bound
mod Lone
mod Fit
mod Meant
mod Picks
mod Rows
