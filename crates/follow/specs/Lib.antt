-- Following, of document 02:
--   Follow   what it refuses, what it answers and what it owes
-- Mirror, which follows the code, is no part of what a reader must believe.
pub mod Follow
pub mod Mirror
