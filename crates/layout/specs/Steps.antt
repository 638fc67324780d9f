-- Notions of the code's own: what its private functions answer.
use Rattle.std.specs.Prelude.{ℕ, ◌+◌, ◌-◌, ◌<◌, ◌≤◌, ◌≡◌, ◌||◌, cond, List, [], ◌∷◌, ◌++◌, eqb, ltb, get_or, Result}
use Rattle.refusal.specs.declared.Refusal.{Refusal}
use Rattle.refusal.specs.declared.Refusal.TheVariants.{VerdictOrPasses, PaddingSet}
use Rattle.refusal.specs.{refuse_if, ◌then◌}
use Rattle.trace.specs.{bytes_for, padding_set}
use Rattle.encoding.specs.{low_first}
use Rattle.layout.specs.declared.Format.{Format}
use Rattle.layout.specs.declared.trailer.Fields.{Fields}
use Rattle.layout.specs.declared.Parts.{Parts}
use Rattle.semantics.specs.declared.Sort.{Sort}
use Rattle.semantics.specs.declared.Sort.TheVariants.{One, Two}
use Rattle.layout.specs.Form.{format2, format3, mark, trailer_bytes, result_bytes, after_trace, most_verdict}
use Rattle.layout.specs.Trailer.{span, part_of, number_at, label_place, guard_place, read_by}

-- the distances of a trailer that 3 does not refuse, in a format
pub record Distances (F : Format) (len at first second : ℕ) : Type 0 where
  pub trailer : at + trailer_bytes F ≡ len
  pub within : first ≤ at
  pub larger : second < first
  pub tail : after_trace F ≤ second

-- the number of the guard trace's samples in a trailer at a place
unfoldable pub guard_count_at : Format → ℕ → List ℕ → ℕ
guard_count_at F at bytes = cond F.guarded (number_at 2 (at + 6) bytes) 0

-- the fields of a trailer at a place
abbrev pub fields_at : Format → ℕ → List ℕ → Fields
fields_at F at bytes =
    record {
      at = at;
      first = number_at 2 at bytes;
      second = number_at 2 (at + 2) bytes;
      n = number_at 2 (at + 4) bytes;
      m = guard_count_at F at bytes;
    }

-- 23, 4, and the parts by the format and the trailer's fields
unfoldable pub parts_stored : List ℕ → Format → Fields → Result Parts Refusal
parts_stored bytes F f =
    let trace = span (f.at - f.second) (bytes_for f.n) in
    let guard = span (f.at - f.second + bytes_for f.n) (bytes_for f.m) in
    read_by
    (refuse_if (padding_set (part_of bytes trace) f.n || padding_set (part_of bytes guard) f.m) PaddingSet
    then refuse_if (ltb most_verdict (get_or bytes (f.at - result_bytes) 0) || eqb (number_at 4 (f.at - 4) bytes) 0) VerdictOrPasses)
    (record {
      format = F.number;
      program = span (f.at - f.first) (f.first - f.second);
      trace = trace;
      n = f.n;
      guard = guard_place F guard f.m;
      label = label_place F (f.at - after_trace F);
      verdict = get_or bytes (f.at - result_bytes) 0;
      passes = number_at 4 (f.at - 4) bytes;
    })

-- of traces handed in, the format that is written, and the guard trace's bytes
abbrev pub format_filled : Sort → Format
format_filled One = format2
format_filled Two = format3

abbrev pub kept : Sort → List ℕ → List ℕ
kept One guard = []
kept Two guard = guard

-- and what the trailer ends with, where m is the number of the guard trace's samples
abbrev pub trailer_end : Sort → ℕ → List ℕ
trailer_end One m = format2.number ∷ mark ∷ []
trailer_end Two m = low_first 2 m ++ (format3.number ∷ mark ∷ [])
