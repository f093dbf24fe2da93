mod Named
mod Rounds
