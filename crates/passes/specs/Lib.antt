-- One pass of a program over arrays. Digits says what the parameter values of a cell are, and the step from a cell to the next (document 02,
-- request 04). Mirror, which follows the code, is no part of what a reader must believe.
pub mod Digits
pub mod Mirror
