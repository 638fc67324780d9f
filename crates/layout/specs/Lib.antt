-- The bytes of a record, of documents 01 ('Record and archive') and 02:
--   Form        the formats, what a record holds, and its bytes
--   Trailer     where the parts of a record stand in bytes that end in it, and what its trailer is refused for
--   Filling     what is recorded with a verdict, and an output that it is written to
-- Steps, which follows the code, is no part of what a reader must believe.
pub mod Form
pub mod Trailer
pub mod Filling
pub mod Steps
