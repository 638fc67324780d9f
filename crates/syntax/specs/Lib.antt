-- Program bytes, of documents 01 and 02, in their smallest forms:
--   Limits     the limits of a program
--   Bytes      the count byte, headers and their refusals, and the table of expression bytes
--   Kinds      the kinds that bytes say; all kinds of a function in one number are the code's own
pub mod Limits
pub mod Bytes
pub mod Kinds
