-- What evaluating needs of an accepted program: where its functions stand.
use Rattle.std.specs.Prelude.{ℕ, ◌+◌, List, [], ◌∷◌, map, length, Result, Ok, Err}
use Rattle.refusal.specs.declared.Refusal.{Refusal}
use Rattle.semantics.specs.declared.Sort.{Sort}
use Rattle.semantics.specs.Language.{Function, Program}
use Rattle.rule.specs.declared.Outline.{Outline}
use Rattle.syntax.specs.Limits.{most_functions}
use Rattle.syntax.specs.Bytes.{header_bytes}
use Rattle.rule.specs.Form.{encode_expr, padded, kinds_byte, guard_byte}
use Rattle.rule.specs.Wanted.{Wanted}
use Rattle.rule.specs.Reading.{Parsed, got, refused, program_sort, program_for}

-- the place of each body's first byte; the first header stands at `at`
unfoldable pub starts_from : Sort → ℕ → Program → List ℕ
starts_from s at [] = []
starts_from s at (f ∷ fs) = (at + header_bytes s) ∷ starts_from s (at + header_bytes s + length (encode_expr f.body)) fs

-- and of the byte after it
unfoldable pub ends_from : Sort → ℕ → Program → List ℕ
ends_from s at [] = []
ends_from s at (f ∷ fs) =
    let end = at + header_bytes s + length (encode_expr f.body) in
    end ∷ ends_from s end fs

unfoldable pub outline_of : Sort → Program → Outline
outline_of s P =
    record {
      functions = length P;
      params = padded most_functions 0 (map (λ (f : Function). length f.params) P);
      kinds = padded most_functions 0 (map (λ (f : Function). kinds_byte f.params f.result) P);
      guards = padded most_functions 0 (map (λ (f : Function). guard_byte f.params f.result) P);
      starts = padded most_functions 0 (starts_from s 1 P);
      ends = padded most_functions 0 (ends_from s 1 P);
    }

-- the outline of what was read; of refused bytes the outline of no functions
abbrev pub outline_from : Sort → Parsed Program → Outline
outline_from s (got P rest) = outline_of s P
outline_from s (refused f) = outline_of s []

-- what the check of a program answers: where its functions stand, or the refusal
abbrev pub judged_from : Sort → Parsed Program → Result Outline Refusal
judged_from s (got P rest) = Ok (outline_of s P)
judged_from s (refused f) = Err f

unfoldable pub judged : Wanted → List ℕ → Result Outline Refusal
judged wanted bs = judged_from (program_sort bs) (program_for wanted bs)
