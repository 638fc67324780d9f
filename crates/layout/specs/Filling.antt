-- Writing a record, of documents 01 and 02: what is recorded with a verdict, and what the output then holds.
use Rattle.std.specs.Prelude.{ℕ, Bool, cond, not, ◌&&◌, List, eqb, leb, length}
use Rattle.std.proofs.Math.Option.{Option, none, some}
use Rattle.trace.specs.{bytes_for, padding_set}
use Rattle.semantics.specs.declared.Verdict.{Verdict}
use Rattle.semantics.specs.declared.Sort.{Sort}
use Rattle.semantics.specs.declared.Sort.TheVariants.{One, Two}
use Rattle.semantics.specs.Language.{Trace}
use Rattle.semantics.specs.Handed.{Handed, samples_of}
use Rattle.semantics.specs.Verdicts.{verdict_number}
use Rattle.encoding.specs.{put}
use Rattle.layout.specs.Form.{Contents, most_verdict, layout}

-- the guard trace that is recorded, where two traces are handed in
abbrev pub guard_recorded : Handed → Sort → Option Trace
guard_recorded h One = none
guard_recorded h Two = some (samples_of h).of_guard

-- what is recorded with a verdict; 'recording is handed no label', so the format is 2, with two traces 3
unfoldable pub recorded : List ℕ → Handed → Verdict → Contents
recorded program h v =
    record {
      program = program;
      samples = (samples_of h).of_ram;
      guard = guard_recorded h h.sort;
      label = none;
      verdict = verdict_number v.decision;
      passes = v.passes;
    }

-- bytes that are those of n samples: as many as these take, with no bit above the last set
unfoldable pub is_packing : List ℕ → ℕ → Bool
is_packing trace n = eqb (length trace) (bytes_for n) && not (padding_set trace n)

abbrev pub are_packings : Handed → Bool
are_packings h = is_packing h.ram h.n && is_packing h.guard h.m

-- an output with a record at its front; where a trace is no packing, the verdict is above 4 or there is no room, the output is
-- as it was
unfoldable pub filled : List ℕ → Handed → Verdict → List ℕ → List ℕ
filled program h v out =
    let c = recorded program h v in
    cond (are_packings h && leb c.verdict most_verdict) (put 0 (layout c) out) out
