mod Lined
mod LastLine
mod Lengths
mod OneFile
