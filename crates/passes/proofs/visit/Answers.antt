-- `visit` meets its contract: a decided cell is kept, and in an undecided one is stored what the body gives on the cell's values.
use mathlib.Core.Path.{◌≡◌, sym, ap, ◌∙◌}
use mathlib.Core.List.{List}
use Prim.Native.Nat.{ℕ}
use native.Mathlib.Omega.{arith}
use lib.ListN.{set}
use lib.Seq.{set-set}
use Rattle.passes.specs.Mirror.{setup, last_of, env_at}
use Rattle.passes.proofs.PassWays.{held_here, visit_kept, visit_open}
use Rattle.passes.proofs.CellLoop.{count_few, cell-inside, cell-few}
use Rattle.std.proofs.Common.{ap}
use Rattle.passes.proofs.visit.Goals as goal

-- whatever is put in at a place, the other values are as they were
others : (slot last digit w : ℕ) (before : List ℕ) {after : List ℕ} → slot ≡ last → after ≡ set before slot digit
    → set after last w ≡ set before last w
others slot last digit w before s e =
    let e' = rw s at e in
    ap (λ (l : List ℕ). set l last w) e' ∙ set-set before last digit w

pub overflow_add-cell : goal.overflow_add-cell
overflow_add-cell c =
    let inside = cell-inside c.args.given.now.functions.now c.args.function.now.g c.requires.at_cell in
    omega (arith, c.requires.function_value.2, inside, c.requires.ready.0.within)

pub offset_bounds-table-cell : goal.offset_bounds-table-cell
offset_bounds-table-cell c =
    let inside = cell-inside c.args.given.now.functions.now c.args.function.now.g c.requires.at_cell in
    omega (arith, c.requires.function_value.2, inside, c.requires.ready.0.within)

pub bounds-table-cell : goal.bounds-table-cell
bounds-table-cell c =
    let inside = cell-inside c.args.given.now.functions.now c.args.function.now.g c.requires.at_cell in
    omega (arith, c.requires.function_value.2, inside, c.requires.ready.0.within)

pub returns-then-held-ne-UNDECIDED-clause-cells : goal.returns-then-held-ne-UNDECIDED-clause-cells
returns-then-held-ne-UNDECIDED-clause-cells c =
    let a = c.args in
    let held : c.held.result ≡ held_here (setup a.given.now.words.now a.given.now.functions.now a.given.now.traces.now) a.given.now.n a.function.now.g a.function.now.body a.table.now a.index =
    rw (c.requires.function_value.0, c.requires.function_value.2) at c.held.ensures in
    let kept =
    visit_kept (setup a.given.now.words.now a.given.now.functions.now a.given.now.traces.now) a.given.now.n a.function.now.g a.function.now.body a.table.now a.index
    (λ q. c.if-held-ne-UNDECIDED.true (held ∙ q)) in
    kept.0

pub returns-then-held-ne-UNDECIDED-clause-stored : goal.returns-then-held-ne-UNDECIDED-clause-stored
returns-then-held-ne-UNDECIDED-clause-stored c =
    let a = c.args in
    let held : c.held.result ≡ held_here (setup a.given.now.words.now a.given.now.functions.now a.given.now.traces.now) a.given.now.n a.function.now.g a.function.now.body a.table.now a.index =
    rw (c.requires.function_value.0, c.requires.function_value.2) at c.held.ensures in
    let kept =
    visit_kept (setup a.given.now.words.now a.given.now.functions.now a.given.now.traces.now) a.given.now.n a.function.now.g a.function.now.body a.table.now a.index
    (λ q. c.if-held-ne-UNDECIDED.true (held ∙ q)) in
    omega (arith, kept.1)

pub fill-requires : goal.fill-requires
fill-requires c =
    let a = c.args in
    let inside = cell-inside a.given.now.functions.now a.function.now.g c.requires.at_cell in (
      omega (arith, c.requires.function_value.1, count_few a.given.now.functions.now a.function.now.g),
      omega (arith, c.requires.function_value.2, inside, c.requires.ready.0.within),
      omega (arith, c.requires.ready.1, cell-few a.given.now.functions.now a.function.now.g c.requires.at_cell c.requires.ready.0.samples),
    )

pub returns-clause-cells : goal.returns-clause-cells
returns-clause-cells c =
    let a = c.args in
    let held : c.held.result ≡ held_here (setup a.given.now.words.now a.given.now.functions.now a.given.now.traces.now) a.given.now.n a.function.now.g a.function.now.body a.table.now a.index =
    rw (c.requires.function_value.0, c.requires.function_value.2) at c.held.ensures in
    let values : set a.env.now a.function.now.slot a.digit ≡ env_at a.given.now.functions.now a.given.now.n a.function.now.g a.index =
    rw c.requires.function_value.1 c.requires.at_cell.values in
    let open-cell =
    visit_open (setup a.given.now.words.now a.given.now.functions.now a.given.now.traces.now) a.given.now.n a.function.now.g a.function.now.body a.table.now a.index a.stored
    (sym held ∙ c.if-held-ne-UNDECIDED.false) values (rw c.requires.function_value.2 at c.fill.ensures.cells)
    c.fill.ensures.stored in
    open-cell.0

pub returns-clause-env : goal.returns-clause-env
returns-clause-env c =
    let a = c.args in
    λ w. others a.function.now.slot (last_of a.given.now.functions.now a.function.now.g) a.digit w a.env.now c.requires.function_value.1 c.fill.ensures.env

pub returns-clause-stored : goal.returns-clause-stored
returns-clause-stored c =
    let a = c.args in
    let held : c.held.result ≡ held_here (setup a.given.now.words.now a.given.now.functions.now a.given.now.traces.now) a.given.now.n a.function.now.g a.function.now.body a.table.now a.index =
    rw (c.requires.function_value.0, c.requires.function_value.2) at c.held.ensures in
    let values : set a.env.now a.function.now.slot a.digit ≡ env_at a.given.now.functions.now a.given.now.n a.function.now.g a.index =
    rw c.requires.function_value.1 c.requires.at_cell.values in
    let open-cell =
    visit_open (setup a.given.now.words.now a.given.now.functions.now a.given.now.traces.now) a.given.now.n a.function.now.g a.function.now.body a.table.now a.index a.stored
    (sym held ∙ c.if-held-ne-UNDECIDED.false) values (rw c.requires.function_value.2 at c.fill.ensures.cells)
    c.fill.ensures.stored in
    open-cell.1
