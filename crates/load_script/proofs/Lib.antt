mod Rounds
mod Pieces
