-- Evaluating, of documents 01 and 02:
--   Evaluate   what evaluating and a single pass answer, and what they leave in the table
--   Rows       the rows of 'Programs tried'
pub mod Evaluate
pub mod Rows
