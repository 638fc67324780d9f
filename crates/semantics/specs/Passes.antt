-- 'Table and passes' of document 01: the passes from zeros, and the pass count.
use Rattle.std.specs.Prelude.{ℕ, zero, suc, cond, ◌++◌, replicate, drop, eqb}
use Rattle.semantics.specs.Language.{Program, Traces}
use Rattle.semantics.specs.Numbering.{cells}
use Rattle.semantics.specs.Visits.{Table, pass, pass_stores}

-- the table after k passes: 'pass 1 starts from the zeros, each later pass from the cells as the one before left them'
unfoldable pub table_after : Program → Traces → ℕ → Table
table_after P t zero = replicate (cells t P) 0
table_after P t (suc k) = pass P t (table_after P t k)

-- the number of the first pass after the first k that changes nothing, looked for among n + 1
unfoldable pub passes_from : Program → Traces → ℕ → ℕ → ℕ
passes_from P t zero k = suc k
passes_from P t (suc n) k =
    let later = passes_from P t n (suc k) in
    cond (eqb (pass_stores P t (table_after P t k)) 0) (suc k) later

-- 'the pass count is the number of the first such pass'; it comes at the latest one after as many as there are cells
unfoldable pub pass_count : Program → Traces → ℕ
pass_count P t = passes_from P t (cells t P) zero

-- the table when passes end
unfoldable pub final_table : Program → Traces → Table
final_table P t = table_after P t (pass_count P t)

-- what a lent table holds then: 'all needed cells start at 0, whatever the lent table held; cells beyond them keep their
-- content'
abbrev pub decided_table : Program → Traces → Table → Table
decided_table P t table = final_table P t ++ drop (cells t P) table
