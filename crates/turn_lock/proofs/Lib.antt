mod Sums
mod Prefixes
mod Keeping
mod Ladder
mod Parting
mod WholeTurn
mod Readings
