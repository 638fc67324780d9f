-- `check_sorts` meets its contract: 5, then 6, then the functions.
use mathlib.Core.Path.{◌≡◌, refl}
use Rattle.refusal.specs.declared.Refusal.TheVariants.{ProgramLength, FunctionCount}
use Rattle.rule.specs.Reading.{refused, program_for}
use Rattle.rule.proofs.ProgramWays.{program-empty, program-long, program_none, program_many, program-other, program-counted, answered}
use Rattle.rule.proofs.check_sorts.Goals as goal
use Rattle.rule.proofs.check_sorts.Goals.{then-len-eq0-via-then-len-eq0, then-len-eq0-via-else-len-eq0+then-len-gt-MOST_BYTES}
use Rattle.rule.proofs.check_sorts.Goals.{then-count-eq0-via-then-count-eq0, then-count-eq0-via-else-count-eq0+then-count-gt-MOST_FUNCTIONS, then-count-eq0-via-else-count-eq0+else-count-gt-MOST_FUNCTIONS+then-not-taken}

by_length : (c : goal.Joined-then-len-eq0) → program_for c.args.wanted c.args.program.now ≡ refused ProgramLength
by_length c = elim c.then-len-eq0.branch [
  | then-len-eq0-via-then-len-eq0 w ↦ program-empty _ _ w.if-len-eq0.true
  | then-len-eq0-via-else-len-eq0+then-len-gt-MOST_BYTES w ↦ program-long _ _ w.if-len-eq0.false w.if-len-gt-MOST_BYTES.true
]

by_count : (c : goal.Joined-then-count-eq0) → program_for c.args.wanted c.args.program.now ≡ refused FunctionCount
by_count c =
    let some = c.if-len-eq0.false in
    let short = c.if-len-gt-MOST_BYTES.false in
    let count = c.count_of-count.ensures in
    elim c.then-count-eq0.branch [
      | then-count-eq0-via-then-count-eq0 w ↦ program_none _ _ some short count w.if-count-eq0.true
      | then-count-eq0-via-else-count-eq0+then-count-gt-MOST_FUNCTIONS w ↦ program_many _ _ some short count w.if-count-eq0.false w.if-count-gt-MOST_FUNCTIONS.true
      | then-count-eq0-via-else-count-eq0+else-count-gt-MOST_FUNCTIONS+then-not-taken w ↦
          program-other _ _ some short count w.if-count-eq0.false w.if-count-gt-MOST_FUNCTIONS.false c.sort_of-sort.ensures w.taken.ensures w.if-not-taken.true
    ]

pub returns-then-len-eq0-clause-check : goal.returns-then-len-eq0-clause-check
returns-then-len-eq0-clause-check c = (answered _ _ _ (by_length c) refl refl).0

pub returns-then-len-eq0-clause-outline : goal.returns-then-len-eq0-clause-outline
returns-then-len-eq0-clause-outline c = (answered _ _ _ (by_length c) refl refl).1

pub returns-then-count-eq0-clause-check : goal.returns-then-count-eq0-clause-check
returns-then-count-eq0-clause-check c = (answered _ _ _ (by_count c) refl refl).0

pub returns-then-count-eq0-clause-outline : goal.returns-then-count-eq0-clause-outline
returns-then-count-eq0-clause-outline c = (answered _ _ _ (by_count c) refl refl).1

pub returns-clause-check : goal.returns-clause-check
returns-clause-check c =
    (answered c.args.wanted _ _
    (program-counted _ _ c.if-len-eq0.false c.if-len-gt-MOST_BYTES.false c.count_of-count.ensures c.if-count-eq0.false
    c.if-count-gt-MOST_FUNCTIONS.false c.sort_of-sort.ensures c.taken.ensures c.if-not-taken.false)
    c.sort_of-sort.ensures c.check_functions.ensures).0

pub returns-clause-outline : goal.returns-clause-outline
returns-clause-outline c =
    (answered c.args.wanted _ _
    (program-counted _ _ c.if-len-eq0.false c.if-len-gt-MOST_BYTES.false c.count_of-count.ensures c.if-count-eq0.false
    c.if-count-gt-MOST_FUNCTIONS.false c.sort_of-sort.ensures c.taken.ensures c.if-not-taken.false)
    c.sort_of-sort.ensures c.check_functions.ensures).1
