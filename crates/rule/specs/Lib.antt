-- Program bytes, in the order of document 01:
--   Form       'Program bytes': the limits, the bytes of a program, which bytes are accepted
--   Wanted     which sorts of programs are taken
--   Reading    'What is refused', 5 to 17, 25 and 26: what any bytes are read as
--   OneNumber  'Kind faults told apart': the answers of the time when 16 was the number of all of them
--   Outline    what evaluating needs of an accepted program
-- Walk, a mirror of the code, is no part of what a reader must believe.
pub mod Form
pub mod Wanted
pub mod Reading
pub mod OneNumber
pub mod Outline
pub mod Walk
