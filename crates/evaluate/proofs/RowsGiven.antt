-- rows-given: evaluating gives each row of 'Programs tried' its verdict and passes, or its refusal, where four
-- cells are lent.
use mathlib.Core.Path.{◌≡◌, refl}
use mathlib.Core.Bool.{true}
use Rattle.trace.specs.{bit_of, bytes_for, sample_at, samples, binary, pack, packed, padding_set}
use Rattle.encoding.specs.{from_low}
use Rattle.semantics.specs.Cells.{outcome_in}
use Rattle.semantics.specs.Bodies.{body_outcome}
use Rattle.semantics.specs.Visits.{lookup, held_at, stored, visit, visits, stores, pass, pass_stores}
use Rattle.semantics.specs.Passes.{table_after, passes_from, pass_count, final_table}
use Rattle.semantics.specs.Verdicts.{main_decision, verdict_of}
use Rattle.syntax.specs.Bytes.{no_list_below, header_of, node_of}
use Rattle.rule.specs.Reading.{kinds_from, raws_from, args_from, expr_from, functions_from, program_by}
use Rattle.prepare.specs.Checks.{evaluate_check}
use Rattle.evaluate.specs.Evaluate.{evaluation}
use Rattle.evaluate.specs.Rows.{rows, all_give}

pub rows-given : all_give 4 rows ≡ true
unfolding bit_of bytes_for sample_at samples binary pack packed padding_set outcome_in body_outcome lookup held_at stored visit visits stores pass pass_stores table_after passes_from pass_count final_table main_decision verdict_of from_low no_list_below header_of kinds_from raws_from node_of args_from expr_from functions_from program_by evaluate_check evaluation
rows-given = refl
