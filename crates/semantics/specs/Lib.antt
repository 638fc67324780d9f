-- What a rule means, in the order of document 01:
--   Language   kinds, expressions, functions, programs; values and outcomes; well-kinded programs
--   Rules      'Evaluation': the rules, as finite derivations
--   Numbering  'Table and passes': configurations and their numbers
--   Digits     document 02: the step from a configuration to the next
--   Cells      the content of a cell
--   Bodies     the outcome of a body with its calls looked up
--   Visits     a pass, on a table with any content
--   Passes     the passes from zeros, and the pass count
--   Verdicts   the verdict, and its number
--   Demand     what evaluating owes (demand 3)
--   Handed     the traces that an operation is handed
pub mod Language
pub mod Rules
pub mod Numbering
pub mod Digits
pub mod Cells
pub mod Bodies
pub mod Visits
pub mod Passes
pub mod Verdicts
pub mod Demand
pub mod Handed
