-- What the checks leave for the passes: the program, and where its functions and their cells stand.
use Rattle.std.specs.Prelude.{ℕ, ◌≤◌, ◌≡◌, List, length, replicate, Result, Ok, Err}
use Rattle.refusal.specs.{Check, ◌then◌}
use Rattle.trace.specs.{most_samples, bytes_for}
use Rattle.semantics.specs.Language.{Program}
use Rattle.semantics.specs.Handed.{Handed, samples_of}
use Rattle.semantics.specs.Numbering.{cells, most_cells}
use Rattle.rule.specs.declared.Outline.{Outline}
use Rattle.rule.specs.Form.{Accepted}
use Rattle.rule.specs.Outline.{outline_of}
use Rattle.codes.specs.declared.Lengths.{Lengths}
use Rattle.passes.specs.declared.setup.Cells.{Cells}
use Rattle.prepare.specs.declared.Prepared.{Prepared}
use Rattle.prepare.specs.declared.NotPrepared.{NotPrepared}
use Rattle.prepare.specs.Checks.{handed_in, trace_check, table_check}
use Rattle.passes.specs.Mirror.{heads_of, functions_upto, functions_of, total_of}

-- the lengths of the traces
abbrev pub lengths_of : Handed → Lengths
lengths_of h = record { ram = h.n; guard = h.m }

pub record Settled (bytes : List ℕ) (h : Handed) (outline : Outline) (places : Cells) (lent : ℕ) : Type 0 where
  pub program : Program
  pub accepted : Accepted bytes h.sort program
  pub few : (h.n ≤ most_samples) × (h.m ≤ most_samples)
  pub packed : (length h.ram ≡ bytes_for h.n) × (length h.guard ≡ bytes_for h.m)
  pub laid : outline ≡ outline_of h.sort program
  pub first : places.functions ≡ functions_upto (heads_of (outline_of h.sort program)) (lengths_of h) (length program)
  pub total : places.total ≡ cells (samples_of h) program
  pub fits : cells (samples_of h) program ≤ most_cells
  pub room : cells (samples_of h) program ≤ lent

-- the array of functions, and the cells of all, by the check of the program and of the traces' lengths: none where one of them is
-- refused
abbrev pub functions_by : Check → Outline → Lengths → List ℕ
functions_by (Ok u) outline n = functions_of (heads_of outline) n outline.functions
functions_by (Err f) outline n = replicate 96 0

abbrev pub total_by : Check → Outline → Lengths → ℕ
total_by (Ok u) outline n = total_of (heads_of outline) n outline.functions
total_by (Err f) outline n = 0

-- what preparing tells, refused or not: where the functions stand, and where the cells do
abbrev pub outline_told : Result Prepared NotPrepared → Outline
outline_told (Ok p) = p.outline
outline_told (Err kept) = kept.outline

abbrev pub cells_told : Result Prepared NotPrepared → Cells
cells_told (Ok p) = p.cells
cells_told (Err kept) = kept.cells

-- the checks that are left once a program is checked, by where its functions stand
abbrev pub places_check : Outline → Handed → ℕ → Check
places_check outline h lent = trace_check h then table_check (total_of (heads_of outline) (lengths_of h) outline.functions) lent

-- what they leave
pub record PlacedBy (bytes : List ℕ) (o : Outline) (h : Handed) (p : Prepared) : Type 0 where
  pub program : p.program.now ≡ bytes
  pub sort : p.handed.sort ≡ h.sort
  pub ram : (p.handed.ram.now ≡ h.ram) × (p.handed.n ≡ h.n)
  pub guard : (p.handed.guard.now ≡ h.guard) × (p.handed.m ≡ h.m)
  pub outline : p.outline ≡ o
  pub lengths : p.lengths ≡ lengths_of h
  pub functions : p.cells.functions ≡ functions_of (heads_of o) (lengths_of h) o.functions
  pub total : p.cells.total ≡ total_of (heads_of o) (lengths_of h) o.functions

-- what a prepared evaluation needs, in so many cells
pub record IsSettled (p : Prepared) (lent : ℕ) : Type 0 where
  pub lengths : p.lengths ≡ lengths_of (handed_in p.handed)
  pub settled : Settled p.program.now (handed_in p.handed) p.outline p.cells lent
