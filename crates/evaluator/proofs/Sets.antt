-- What ties the arrays of an evaluation to the program and the traces that they were made of.
--   first_cell     where a function's cells begin
--   EnvOf         an array of parameter values
--   NodeFrom      the word of a node
--   Sets          the words and the bytes of the traces
use Rattle.std.proofs.Common.{◌≡◌, ℕ, ◌+◌, ◌<◌, ◌≤◌, List, length, get_or, take}
use mathlib.Core.Option.{some}
use lib.ListN.{get_elem?}
use Rattle.semantics.specs.declared.Kind.{Kind}
use Rattle.semantics.specs.Language.{Function, Program, Traces, Value, given}
use Rattle.semantics.specs.Numbering.{cells, most_cells}
use Rattle.syntax.specs.Limits.{most_functions, most_params, most_bytes}
use Rattle.syntax.specs.Kinds.{kind_in}
use Rattle.codes.specs.declared.Lengths.{Lengths}
use Rattle.codes.specs.{working_of}
use Rattle.codes.proofs.CodeMeaning.{ShortTraces, LengthsOf, SaysTraces, Origins}
use Rattle.decoding.specs.Words.{function_word, kind_word}
use Rattle.decoding.specs.Decoding.{arguments_of, signature_in, word_by}
use Rattle.decoding.proofs.Ends.{Ends}
use Rattle.evaluator.specs.{function_at, param_at}

-- the first cell of function g: the cells of the functions before it
abbrev pub first_cell : Traces → Program → ℕ → ℕ
first_cell t P g = cells t (take g P)

-- the working numbers of parameter values, and the origins of places
pub record EnvOf (t : Traces) (env : List ℕ) (vs : List Value) : Type 0 where
  pub value : (i : ℕ) (v : Value) → get_elem? vs i ≡ some v → get_or env i 0 ≡ working_of (given v)
  pub origins : Origins t env

-- the word at a place is decoded by the ends and the words after it
pub record NodeFrom (P : Program) (bytes counts array words : List ℕ) (at : ℕ) : Type 0 where
  pub ends : List ℕ
  pub right : Ends P bytes (at + 1) ends
  pub later : List ℕ
  pub kept : (p : ℕ) → at < p → get_or later p 0 ≡ get_or words p 0
  pub word : get_or words at 0 ≡ word_by bytes counts array ends later at

-- n are the lengths of the traces; `counts` has the functions' numbers of parameters, `array` is the array of functions
pub record Sets (P : Program) (t : Traces) (n : Lengths) (bytes words traces : List ℕ) : Type 0 where
  pub short : length bytes ≤ most_bytes
  pub functions : length P ≤ most_functions
  pub params : (g : ℕ) (f : Function) → get_elem? P g ≡ some f → length f.params ≤ most_params
  pub lengths : LengthsOf t n
  pub samples : ShortTraces t
  pub fits : cells t P ≤ most_cells
  pub counts : List ℕ
  pub arguments : (g : ℕ) (f : Function) → get_elem? P g ≡ some f → arguments_of counts g ≡ length f.params
  pub array : List ℕ
  pub results : (g : ℕ) (f : Function) → get_elem? P g ≡ some f → kind_in (signature_in array g) 4 ≡ f.result
  pub nodes : (at : ℕ) → at < length bytes → NodeFrom P bytes counts array words at
  pub function : (g : ℕ) (f : Function) → get_elem? P g ≡ some f → function_at words g ≡ function_word (first_cell t P g) f.result n
  pub param : (g i : ℕ) (f : Function) (κ : Kind) → get_elem? P g ≡ some f → get_elem? f.params i ≡ some κ
      → param_at words g i ≡ kind_word κ n
  pub says : SaysTraces t traces
