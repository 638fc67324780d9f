-- The arrays of an evaluation are those of the program and the traces:
--   traces_for, lengths_are,
--   traces-short                        the traces that bytes mean, and their lengths
--   traces_mean                         the array of the traces
--   arrays_of                            all of them
--   first_is, signature_is, count_is    what the array of functions has of each
--   sets                                what ties words and bytes to the program and the traces
use mathlib.Core.Path.{◌≡◌, sym, ap, ◌∙◌}
use mathlib.Core.Bool.{Bool, false, cond}
use mathlib.Core.List.{List, ◌++◌}
use mathlib.Core.Option.{some}
use Prim.Native.Nat.{ℕ, ◌+◌, ◌-◌, ◌*◌, ◌/◌, ◌%◌, ◌<◌, ◌≤◌}
use native.Mathlib.Nat.{zero-add}
use native.Mathlib.Omega.{arith}
use lib.ListN.{length, get_elem?, get_or, take, replicate, length-replicate, length-take, get_or-append}
use lib.Seq.{get_or-append-add, get_or-take}
use Rattle.trace.specs.{most_samples, sample_at, samples}
use Rattle.trace.proofs.Packing.{length-samples, samples_at}
use Rattle.semantics.specs.declared.Contact.{Contact}
use Rattle.semantics.specs.declared.Contact.TheVariants.{Ram, Guard}
use Rattle.semantics.specs.declared.Sort.{Sort}
use Rattle.semantics.specs.declared.Kind.{Kind}
use Rattle.semantics.specs.Language.{Function, Program, Traces}
use Rattle.semantics.specs.Numbering.{cells, most_cells}
use Rattle.semantics.specs.Cells.{false_code, true_code}
use Rattle.syntax.specs.Limits.{most_params, most_body}
use Rattle.syntax.specs.Kinds.{kind_in}
use Rattle.rule.specs.Form.{padded, Accepted}
use Rattle.rule.specs.Outline.{outline_of}
use Rattle.rule.proofs.Padded.{length-padded, get_or-padded}
use Rattle.rule.proofs.Expressions.{place-below}
use Rattle.codes.specs.declared.Lengths.{Lengths}
use Rattle.codes.specs.{Short, most_trace_bytes, sample_code}
use Rattle.codes.proofs.CodeMeaning.{ShortTraces, LengthsOf, places_from, SaysTraces}
use Rattle.decoding.specs.Words.{most_words, function_word, kind_word}
use Rattle.decoding.specs.Decoding.{ends_down, signature_in, words_filled}
use Rattle.decoding.proofs.Ends.{ends_mean, arguments_mean}
use Rattle.decoding.proofs.Filled.{after, after_kept, node_filled, function_filled, param-filled}
use Rattle.evaluator.specs.{function_at, param_at}
use Rattle.evaluator.proofs.Sets.{first_cell, Sets}
use Rattle.passes.specs.Mirror.{Setup, setup, first_of, count_of, functions_upto, traces_of}
use Rattle.passes.proofs.FunctionsMeaning.{signature_for, param_kind, result_kind_lem, heads_for, first_means, signature_means, count_means}

-- ---- The traces

-- the traces that the bytes of each mean, of so many samples
abbrev pub traces_for : List ℕ → List ℕ → Lengths → Traces
traces_for ram guard n = record { of_ram = samples ram n.ram; of_guard = samples guard n.guard }

pub lengths_are : (ram guard : List ℕ) (n : Lengths) → LengthsOf (traces_for ram guard n) n
lengths_are ram guard n = record { ram = sym (length-samples ram n.ram); guard = sym (length-samples guard n.guard) }

pub traces-short : (ram guard : List ℕ) (n : Lengths) → Short n → ShortTraces (traces_for ram guard n)
traces-short ram guard n h Ram = rw (length-samples ram n.ram) h.0
traces-short ram guard n h Guard = rw (length-samples guard n.guard) h.1

module _ (ram guard : List ℕ) where
  abbrev bytes_of : Contact → List ℕ
  bytes_of Ram = ram
  bytes_of Guard = guard

  part : List ℕ → List ℕ
  part bytes = padded most_trace_bytes 0 (take most_trace_bytes bytes)

  part_length : (bytes : List ℕ) → length (part bytes) ≡ most_trace_bytes
  unfolding part
  part_length bytes = length-padded most_trace_bytes 0 (take most_trace_bytes bytes) (omega (arith, length-take most_trace_bytes bytes))

  part_at : (bytes : List ℕ) (j : ℕ) → j < most_trace_bytes → get_or (part bytes) j 0 ≡ get_or bytes j 0
  unfolding part
  part_at bytes j h = get_or-padded most_trace_bytes 0 (take most_trace_bytes bytes) j ∙ get_or-take most_trace_bytes bytes j 0 h

  -- where their bytes begin in the array
  abbrev bytes_from : Contact → ℕ
  bytes_from Ram = 0
  bytes_from Guard = most_trace_bytes

  -- a byte of one of them, by its place in the array
  byte_there : (c : Contact) (j : ℕ) → j < most_trace_bytes → get_or (traces_of ram guard) (bytes_from c + j) 0 ≡ get_or (bytes_of c) j 0
  unfolding traces_of part
  byte_there Ram j h =
      let inside : j < length (part ram) = rw (part_length ram) h in
      rw (zero-add j) (get_or-append (part ram) (part guard) 0 j inside ∙ part_at ram j h)
  byte_there Guard j h =
      ap (λ (k : ℕ). get_or (part ram ++ part guard) (k + j) 0) (sym (part_length ram))
      ∙ get_or-append-add (part ram) (part guard) j 0
      ∙ part_at guard j h

  -- the byte and the bit of a place among the samples of both
  byte_of : (c : Contact) (i : ℕ) → i < most_samples → (places_from c + i) / 8 % (2 * most_trace_bytes) ≡ bytes_from c + i / 8
  byte_of Ram i h = omega arith
  byte_of Guard i h = omega arith

  bit_in : (c : Contact) (i : ℕ) → (places_from c + i) % 8 ≡ i % 8
  bit_in Ram i = omega arith
  bit_in Guard i = omega arith

  sample_there : (c : Contact) (n i : ℕ) → n ≤ most_samples → i < n
      → sample_code (traces_of ram guard) (places_from c + i) ≡ cond (get_or (samples (bytes_of c) n) i false) true_code false_code
  unfolding sample_at
  sample_there c n i few h =
      let inside : i / 8 < most_trace_bytes = omega arith in
      rw (byte_of c i (omega arith), bit_in c i, byte_there c (i / 8) inside)
      (ap (λ (b : Bool). cond b true_code false_code) (sym (samples_at (bytes_of c) n i h)))

  pub traces_mean : (n : Lengths) → Short n → SaysTraces (traces_for ram guard n) (traces_of ram guard)
  traces_mean n few Ram i h = sample_there Ram n.ram i few.0 (rw (length-samples ram n.ram) at h)
  traces_mean n few Guard i h = sample_there Guard n.guard i few.1 (rw (length-samples guard n.guard) at h)

-- ---- All arrays

-- the functions of a program on traces of such lengths
abbrev functions_for : Sort → Program → Lengths → List ℕ
functions_for s P n = functions_upto (heads_for s P) n (length P)

abbrev pub arrays_of : List ℕ → Sort → Program → List ℕ → List ℕ → Lengths → Setup
arrays_of bytes s P ram guard n =
    setup (words_filled bytes (outline_of s P).params (functions_for s P n) (length P) n (replicate most_words 0)) (functions_for s P n)
    (traces_of ram guard)

module _ {bytes : List ℕ} {s : Sort} {P : Program} (a : Accepted bytes s P) (ram guard : List ℕ) (n : Lengths) (few : Short n)
    (fits : cells (traces_for ram guard n) P ≤ most_cells) where
  abbrev t : Traces
  t = traces_for ram guard n

  abbrev F : List ℕ
  F = functions_for s P n

  abbrev S : Setup
  S = arrays_of bytes s P ram guard n

  zeros : length (replicate {A = ℕ} most_words 0) ≡ most_words
  zeros = length-replicate {A = ℕ} most_words 0

  module _ (g : ℕ) (f : Function) (e : get_elem? P g ≡ some f) where
    pub first_is : first_of F g ≡ first_cell t P g
    first_is = first_means a t n (lengths_are ram guard n) g f e

    pub signature_is : signature_in F g ≡ signature_for f.params f.result
    signature_is = signature_means a t n (lengths_are ram guard n) g f e

    pub count_is : count_of F g ≡ length f.params
    count_is = count_means a t n (lengths_are ram guard n) g f e

    result_is : kind_in (signature_in F g) 4 ≡ f.result
    result_is = rw signature_is (result_kind_lem f.params f.result (a.fits g f e).params)

    function_is : function_at S.words g ≡ function_word (first_cell t P g) f.result n
    function_is =
        function_filled bytes (outline_of s P).params F (length P) n (replicate most_words 0) zeros a.short a.few g (place-below P g f e)
        ∙ rw (first_is, result_is)

    param_is : (i : ℕ) (κ : Kind) → get_elem? f.params i ≡ some κ → param_at S.words g i ≡ kind_word κ n
    param_is i κ h =
        let narrow = (a.fits g f e).params in
        let below : i < most_params = omega (arith, place-below f.params i κ h) in
        param-filled bytes (outline_of s P).params F (length P) n (replicate most_words 0) zeros a.short a.few g i (place-below P g f e) below
        ∙ rw (signature_is, param_kind f.params f.result narrow i κ h)

  pub sets : Sets P t n bytes S.words S.traces
  sets =
      record {
        short = a.short;
        functions = a.few;
        params = λ g f e. (a.fits g f e).params;
        lengths = lengths_are ram guard n;
        samples = traces-short ram guard n few;
        fits = fits;
        counts = (outline_of s P).params;
        arguments = λ g f e. arguments_mean a g f e;
        array = F;
        results = λ g f e. result_is g f e;
        nodes = λ at h. record {
          ends = ends_down bytes (outline_of s P).params (length bytes - (at + 1)) (at + 1) (replicate most_body 0);
          right = ends_mean a (at + 1) (omega arith);
          later = after bytes (outline_of s P).params F (length P) n (replicate most_words 0) zeros a.short a.few at;
          kept = after_kept bytes (outline_of s P).params F (length P) n (replicate most_words 0) zeros a.short a.few at h;
          word = node_filled bytes (outline_of s P).params F (length P) n (replicate most_words 0) zeros a.short a.few at h;
        };
        function = λ g f e. function_is g f e;
        param = λ g i f κ e h. param_is g f e i κ h;
        says = traces_mean ram guard n few;
      }
