-- 'What is refused' of documents 01 and 02: the refusals of evaluating, 5 to 17 with 25 and 26, 20, 23 and 21.
use Rattle.std.specs.Prelude.{ℕ, Bool, not, ◌||◌, List, eqb, ltb, length, Some, Result, Ok, Err}
use Rattle.refusal.specs.declared.Refusal.TheVariants.{TraceLength, TableShort, PaddingSet}
use Rattle.refusal.specs.{Check, passed, refuse_if, ◌then◌}
use Rattle.trace.specs.{most_samples, bytes_for, padding_set}
use Rattle.semantics.specs.Language.{Program}
use Rattle.semantics.specs.Handed.{Handed, handed, samples_of}
use Rattle.semantics.specs.Numbering.{cells, most_cells}
use Rattle.rule.specs.Reading.{Parsed, got, refused, program_for}
use Rattle.prepare.specs.declared.Handed as given
use Rattle.prepare.specs.declared.Prepared.{Prepared}
use Rattle.prepare.specs.declared.NotPrepared.{NotPrepared}

-- the traces that an operation is handed, with their numbers of samples
abbrev pub handed_in : given.Handed → Handed
handed_in t = handed t.sort t.ram.now t.n t.guard.now t.m

-- 20: 'a lent trace has n above 4,095 or not n / 8 rounded up bytes'
abbrev pub length_check : ℕ → ℕ → Check
length_check n bytes = refuse_if (ltb most_samples n || not (eqb bytes (bytes_for n))) TraceLength

-- 23: 'a bit above the last sample is set'
abbrev pub padding_check : Bool → Check
padding_check set = refuse_if set PaddingSet

-- of the traces handed in: 20 for both, and directly after it 23 for either
abbrev pub lengths_check : Handed → Check
lengths_check h = length_check h.n (length h.ram) then length_check h.m (length h.guard)

abbrev pub trace_check : Handed → Check
trace_check h = lengths_check h then padding_check (padding_set h.ram h.n || padding_set h.guard h.m)

-- 21: 'the cells needed exceed the lent table or 16,777,216'
abbrev pub table_check : ℕ → ℕ → Check
table_check needed lent = refuse_if (ltb lent needed || ltb most_cells needed) TableShort

-- 5 to 17 with 25 and 26, 20, 23, 21, in this order; the program is what its bytes are read as, of the sort that the traces say
abbrev pub check_read : Parsed Program → Handed → ℕ → Check
check_read (got P rest) h lent = trace_check h then table_check (cells (samples_of h) P) lent
check_read (refused f) h lent = Err f

unfoldable pub evaluate_check : List ℕ → Handed → ℕ → Check
evaluate_check program h lent = check_read (program_for (Some h.sort) program) h lent

-- what preparing tells of them
abbrev pub told_by : Result Prepared NotPrepared → Check
told_by (Ok p) = passed
told_by (Err kept) = Err kept.refusal
