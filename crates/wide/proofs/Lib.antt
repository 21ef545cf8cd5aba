-- Laws of plain numbers that the functions' proofs cite.
mod Digits
mod Shifts
mod Carried
