-- Records, of documents 01 ('Record and archive') and 02; `layout` has what a record holds, and its bytes:
--   Reading     what reading answers of any bytes
--   Recording   what recording answers, writes, and leaves in the table
--   Checking    what checking answers, and leaves in the table
--   Inverse     what reading and writing owe each other
--   Releases    what reading owes the records of older releases
-- Steps, which follows the code, is no part of what a reader must believe.
pub mod Reading
pub mod Recording
pub mod Checking
pub mod Inverse
pub mod Releases
pub mod Steps
