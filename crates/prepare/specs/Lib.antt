-- The checks of an evaluation:
--   Checks     the traces that it is handed, and its refusals
-- Settled, which follows the code, is no part of what a reader must believe.
pub mod Checks
pub mod Settled
