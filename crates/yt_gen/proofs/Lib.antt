mod Ranges
mod GraphLines
mod OneOrder
mod MessageOrder
mod Lengths
