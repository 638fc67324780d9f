-- The passes of an accepted program run over its own arrays:
--   runs     what ties the run to the program and the traces
use Prim.Native.Nat.{ℕ, ◌≤◌}
use mathlib.Core.Path.{◌≡◌}
use mathlib.Core.List.{List, ◌++◌}
use mathlib.Core.Option.{some}
use lib.ListN.{get_elem?, get_or, drop}
use Rattle.semantics.specs.declared.Sort.{Sort}
use Rattle.semantics.specs.Language.{Function, Program}
use Rattle.semantics.specs.Numbering.{cells, most_cells}
use Rattle.syntax.specs.Limits.{most_functions}
use Rattle.rule.specs.Form.{encode_expr, Accepted}
use Rattle.rule.specs.Outline.{starts_from, outline_of}
use Rattle.rule.proofs.Padded.{get_or-padded}
use Rattle.rule.proofs.Places.{body_at}
use Rattle.codes.specs.declared.Lengths.{Lengths}
use Rattle.codes.specs.{Short}
use Rattle.passes.proofs.FunctionsMeaning.{sizes_mean}
use Rattle.passes.proofs.ValuesMeaning.{env_means}
use Rattle.passes.proofs.SetupMeaning.{traces_for, arrays_of, first_is, signature_is, count_is, sets}
use Rattle.passes.proofs.PassMeaning.{Runs}

module _ {bytes : List ℕ} {s : Sort} {P : Program} (a : Accepted bytes s P) where
  starts_at : (g : ℕ) (f : Function) → get_elem? P g ≡ some f → (rest : List ℕ)
      × (drop (get_or (outline_of s P).starts g 0) bytes ≡ encode_expr f.body ++ rest)
  unfolding outline_of
  starts_at g f e =
      let b = body_at bytes s P a g f e in
      (b.0, rw (get_or-padded most_functions 0 (starts_from s 1 P) g) b.1)

  pub runs : (ram guard : List ℕ) (n : Lengths) → Short n → cells (traces_for ram guard n) P ≤ most_cells
      → Runs P (traces_for ram guard n) n bytes (arrays_of bytes s P ram guard n) (outline_of s P).starts
  runs ram guard n few fits =
      let u = sets a ram guard n few fits in
      record {
        sets = u;
        first = λ g f e. first_is a ram guard n few fits g f e;
        kinds = a.kinds;
        sizes = λ g f e. sizes_mean a (traces_for ram guard n) n u.lengths g f e;
        envs = λ g f i e h.
            rw (signature_is a ram guard n few fits g f e, count_is a ram guard n few fits g f e)
            (env_means u.lengths f.params f.result (a.fits g f e).params i h);
        bodies = starts_at;
        deep = λ g f e. (a.fits g f e).deep;
        fits = λ g f e. (a.fits g f e).body;
      }
