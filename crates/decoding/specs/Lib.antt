-- The words of an evaluation, which follow the code: no part of what a reader must believe. Words says how a word is made
-- and read, Decoding which words a program and its functions have.
pub mod Words
pub mod Decoding
