-- 'Rules that need no table' of document 02, in its order:
--   Loops      rules that only loop
--   Following  the calls followed from main: the decision, and the calls made
--   Chain      the chain of calls by the rules alone
--   Owed       what following owes
pub mod Loops
pub mod Following
pub mod Chain
pub mod Owed
