-- Cells by the first cell of their function, and what a cell holds by its number:
--   first_cell_lem       the cell of a configuration, by its number in its function
--   first-within     a function's cells lie among those of the program
--   config_first     the configuration of a cell of a function
--   held_means       the number of what a cell of a function holds
--   first_is         where a function's cells begin
use Rattle.std.proofs.Common.{◌≡◌, ℕ, zero, suc, ◌+◌, ◌<◌, ◌≤◌, List, [], ◌∷◌, ◌∙◌, mod-eq_of_lt, arith}
use mathlib.Core.Option.{some}
use lib.ListN.{get_elem?}
use Rattle.semantics.specs.Language.{Function, Program, Traces, Value}
use Rattle.semantics.specs.Numbering.{size, number, values_at, cells, cell_of, config_at}
use Rattle.semantics.specs.Cells.{content_of, outcome_in}
use Rattle.semantics.proofs.Numbering.{number-values, values_in_lem, config_cell}
use Rattle.codes.specs.declared.Lengths.{Lengths}
use Rattle.codes.proofs.CodeMeaning.{decided_means}
use Rattle.codes.proofs.Bounds.{lengths_short}
use Rattle.decoding.specs.Words.{first_in, held_in}
use Rattle.decoding.proofs.Packing.{first_in_lem, held_in_lem}
use Rattle.evaluator.specs.{function_at}
use Rattle.evaluator.proofs.Sets.{first_cell, Sets}

-- ---- Places of cells

pub first_cell_lem : (t : Traces) (P : Program) (g : ℕ) (f : Function) (vs : List Value) → get_elem? P g ≡ some f
    → cell_of t P g vs ≡ first_cell t P g + number t f.params vs
first_cell_lem t [] g f vs e = let z : ◌≡◌ {A = ℕ} 0 1 = cc in absurd (omega arith)
first_cell_lem t (f₀ ∷ P) zero f vs e = let q : f₀ ≡ f = cc in rw q (omega arith)
first_cell_lem t (f₀ ∷ P) (suc g) f vs e = omega (arith, first_cell_lem t P g f vs e)

pub first-within : (t : Traces) (P : Program) (g : ℕ) (f : Function) → get_elem? P g ≡ some f → first_cell t P g + size t f.params ≤ cells t P
first-within t [] g f e = let z : ◌≡◌ {A = ℕ} 0 1 = cc in absurd (omega arith)
first-within t (f₀ ∷ P) zero f e = let q : f₀ ≡ f = cc in rw q (omega arith)
first-within t (f₀ ∷ P) (suc g) f e = omega (arith, first-within t P g f e)

pub config_first : (t : Traces) (P : Program) (g : ℕ) (f : Function) (i : ℕ) → get_elem? P g ≡ some f → i < size t f.params
    → config_at t P (first_cell t P g + i) ≡ some (record { fun = f; args = values_at t f.params i })
config_first t P g f i e h =
    let vs = values_at t f.params i in
    let same : cell_of t P g vs ≡ first_cell t P g + i = first_cell_lem t P g f vs e ∙ rw (number-values t f.params i h) in
    rw same at (config_cell t P g f vs e (values_in_lem t f.params i h))

-- ---- What a cell holds

module _ {P : Program} {t : Traces} {n : Lengths} {bytes words traces : List ℕ} (s : Sets P t n bytes words traces) (g : ℕ) (f : Function)
    (e : get_elem? P g ≡ some f) where
  pub held_means : (cell : ℕ) → held_in (function_at words g) cell ≡ content_of (outcome_in t f.result cell)
  held_means cell =
      rw (s.function g f e)
      (held_in_lem (first_cell t P g) f.result n cell (lengths_short s.samples s.lengths)
      ∙ decided_means s.lengths f.result cell)

  pub first_is : first_in (function_at words g) ≡ first_cell t P g
  first_is =
      rw (s.function g f e)
      (first_in_lem (first_cell t P g) f.result n
      ∙ mod-eq_of_lt (omega (arith, first-within t P g f e, s.fits)))
