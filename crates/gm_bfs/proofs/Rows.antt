-- Searches and the loops that they become: their trees, and their outcomes on small graphs.
mod Notation
mod Reach
mod Reverse
mod Faults
