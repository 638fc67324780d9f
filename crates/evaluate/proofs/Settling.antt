-- What a settled evaluation comes to:
--   program_is          the program that the bytes are read as
--   run_here            the arrays of the evaluation are its own
--   main-small          main's cell is among the most cells that there can be
--   settled_within      it lies within the table that all passes leave
--   settled_verdict     what all passes decide and leave
--   settled_pass        what one pass stores and leaves
use Prim.Native.Nat.{ℕ, ◌<◌, ◌≤◌}
use native.Mathlib.Omega.{arith}
use mathlib.Core.Path.{◌≡◌, refl, ap, ◌∙◌}
use mathlib.Core.List.{List, [], ◌∷◌, ◌++◌}
use mathlib.Core.Option.{some}
use lib.ListN.{length, get_elem?, get_or, drop, replicate, length-append, get_or-append}
use Rattle.semantics.specs.declared.Decision.{Decision}
use Rattle.semantics.specs.Language.{Function, Program, Traces}
use Rattle.semantics.specs.Handed.{Handed, samples_of}
use Rattle.semantics.specs.Numbering.{cells, most_cells}
use Rattle.semantics.specs.Visits.{pass, pass_stores}
use Rattle.semantics.specs.Passes.{final_table, pass_count, decided_table}
use Rattle.semantics.specs.Verdicts.{main_decision, main_cell, verdict_of}
use Rattle.semantics.proofs.Numbering.{size_pos}
use Rattle.semantics.proofs.Passes.{length_after}
use Rattle.rule.specs.declared.Outline.{Outline}
use Rattle.std.specs.Prelude.{None}
use Rattle.rule.specs.Outline.{outline_of}
use Rattle.rule.proofs.Programs.{read-encoded}
use Rattle.rule.specs.Reading.{program_in, program_of}
use Rattle.passes.specs.declared.setup.Cells.{Cells}
use Rattle.codes.specs.declared.Lengths.{Lengths}
use Rattle.decoding.specs.Words.{most_words}
use Rattle.decoding.specs.Decoding.{words_filled}
use Rattle.passes.specs.Mirror.{Setup, setup, pass_visits, pass_counts, cleared, main_cell_of, traces_of}
use Rattle.fixpoint.specs.{most_passes, table_from, passes_run}
use Rattle.prepare.specs.Settled.{Settled, lengths_of}
use Rattle.passes.proofs.PassWays.{cleared-within}
use Rattle.passes.proofs.FunctionsMeaning.{main_cell_means}
use Rattle.passes.proofs.SetupMeaning.{lengths_are}
use Rattle.passes.proofs.PassMeaning.{Runs, pass_means, counts_mean}
use Rattle.fixpoint.proofs.FinalMeaning.{table_means, passes_mean}
use Rattle.passes.proofs.RunsMeaning.{runs}

module _ {bytes : List ℕ} {h : Handed} {outline : Outline} {places : Cells} {lent : ℕ} (u : Settled bytes h outline places lent) {n : Lengths} (e : n ≡ lengths_of h) where
  pub program_is : program_of bytes ≡ u.program
  program_is = ap program_in (read-encoded bytes h.sort u.program u.accepted None refl)

  functions_are : outline.functions ≡ length u.program
  unfolding outline_of
  functions_are = rw u.laid

  abbrev t : Traces
  t = samples_of h

  -- main's cell is one of the cells
  main-below : main_cell t u.program < cells t u.program
  main-below = let m = u.accepted.main in main-fits u.program m.0 m.1
    where
      main-fits : (P : Program) (f : Function) → get_elem? P 0 ≡ some f → main_cell t P < cells t P
      main-fits [] f e = let z : ◌≡◌ {A = ℕ} 0 1 = cc in absurd (omega arith)
      main-fits (f₀ ∷ P) f e = omega (arith, size_pos t f₀.params)

  main_is : main_cell_of places.functions n ≡ main_cell t u.program
  main_is = rw (e, u.first) (main_cell_means u.accepted t (lengths_of h) (lengths_are h.ram h.guard (lengths_of h)) u.few)

  -- and there are not many of these
  pub main-small : main_cell_of places.functions n < most_cells
  main-small = omega (arith, main_is, main-below, u.fits)

  final_below : main_cell t u.program < length (final_table u.program t)
  unfolding final_table
  final_below = omega (arith, length_after u.program t (pass_count u.program t), main-below)

  -- the arrays are those of the program and the traces
  module _ {words bytes_of : List ℕ}
      (w : words ≡ words_filled bytes outline.params places.functions outline.functions n (replicate most_words 0))
      (z : bytes_of ≡ traces_of h.ram h.guard) where
    abbrev S : Setup
    S = setup words places.functions bytes_of

    pub run_here : Runs u.program t n bytes S outline.starts
    run_here = let w = rw e at w in rw (e, w, z, functions_are, u.first, u.laid) (runs u.accepted h.ram h.guard (lengths_of h) u.few u.fits)

    -- the needed cells are cleared, those beyond keep their content
    module _ (T₀ : List ℕ) (room : lent ≤ length T₀) {T : List ℕ} (c : T ≡ cleared places.total T₀) where
      abbrev Rest : List ℕ
      Rest = drop places.total T₀

      zeros : T ≡ replicate (cells t u.program) 0 ++ Rest
      zeros =
          c
          ∙ cleared-within places.total T₀ (omega (arith, u.total, u.room))
          ∙ ap (λ (k : ℕ). replicate k 0 ++ Rest) u.total

      module _ {T' : List ℕ} {k : ℕ}
          (r : (T' ≡ table_from S n outline.starts outline.functions most_passes T)
          × (k ≡ passes_run S n outline.starts outline.functions most_passes T)) where
        left : T' ≡ final_table u.program t ++ Rest
        left = r.0 ∙ rw (zeros, functions_are) (table_means u.program t n bytes S outline.starts run_here Rest)

        made : k ≡ pass_count u.program t
        made = r.1 ∙ rw (zeros, functions_are) (passes_mean u.program t n bytes S outline.starts run_here Rest)

        pub settled_within : main_cell_of places.functions n < length T'
        settled_within = omega (arith, ap length left, length-append (final_table u.program t) Rest, main_is, final_below)

        main-cell : get_or T' (main_cell_of places.functions n) 0 ≡ get_or (final_table u.program t) (main_cell t u.program) 0
        main-cell = rw (left, main_is) (get_or-append (final_table u.program t) Rest 0 (main_cell t u.program) final_below)

        pub settled_verdict : {d : Decision} {cell : ℕ} → cell ≡ main_cell_of places.functions n → d ≡ main_decision (get_or T' cell 0)
            → (record { decision = d; passes = k } ≡ verdict_of (program_of bytes) t)
            × (T' ≡ decided_table (program_of bytes) t T₀)
        unfolding verdict_of
        settled_verdict e q = (rw program_is (simp (q, e, main-cell, made)), rw program_is (rw u.total at left))

    pub settled_pass : (T : List ℕ) → lent ≤ length T → {T' : List ℕ} {k : ℕ}
        → (T' ≡ pass_visits S n outline.starts outline.functions T) × (k ≡ pass_counts S n outline.starts outline.functions T)
        → (k ≡ pass_stores (program_of bytes) t T) × (T' ≡ pass (program_of bytes) t T)
    settled_pass T l r =
        let room : cells t u.program ≤ length T = omega (arith, u.room) in (
          r.1 ∙ rw (program_is, functions_are) (counts_mean u.program t n bytes S outline.starts run_here T room),
          r.0 ∙ rw (program_is, functions_are) (pass_means u.program t n bytes S outline.starts run_here T room),
        )
