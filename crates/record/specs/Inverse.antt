-- What reading and writing owe each other (demand 2).
use Rattle.std.specs.Prelude.{◌≡◌, ◌↔◌, List, ◌++◌, ℕ, take, drop, Ok}
use Rattle.layout.specs.declared.Parts.{Parts}
use Rattle.layout.specs.Form.{Contents, format_of, layout, Stated}
use Rattle.layout.specs.Trailer.{contents_at}
use Rattle.record.specs.Reading.{reading}

-- bytes that end in a record of these contents are read as those, in their format, and the bytes before it are left
pub record ReadsBack (before : List ℕ) (c : Contents) : Type 0 where
  pub parts : Parts
  pub accepted : reading (before ++ layout c) ≡ Ok parts
  pub contents : contents_at (before ++ layout c) parts ≡ c
  pub format : parts.format ≡ (format_of c).number
  pub left : take parts.program.start (before ++ layout c) ≡ before

-- bytes that are read as a record end in the stated layout of some contents, of the format told
pub record EndsIn (bytes : List ℕ) (p : Parts) : Type 0 where
  pub stated : Stated (contents_at bytes p)
  pub format : p.format ≡ (format_of (contents_at bytes p)).number
  pub whole : bytes ≡ take p.program.start bytes ++ layout (contents_at bytes p)

-- the bytes end in a record of a format: in the stated layout of some contents of it that 2, 3, 23 and 4 to 17 with 25 and 26 leave
abbrev pub EndInRecord : ℕ → List ℕ → Type 0
EndInRecord k bytes = (before : List ℕ) × (c : Contents) × Stated c × ((format_of c).number ≡ k) × (bytes ≡ before ++ layout c)

-- 'the reader accepts exactly the stated layout', in each format
abbrev pub AcceptsExactly : List ℕ → Type 0
AcceptsExactly bytes = (k : ℕ) → ((p : Parts) × (reading bytes ≡ Ok p) × (p.format ≡ k)) ↔ EndInRecord k bytes

-- a record's own bytes: from its program's first to its trailer's last, the last of all
abbrev pub own_bytes : List ℕ → Parts → List ℕ
own_bytes bytes p = drop p.program.start bytes

-- 'two accepted records have equal contents exactly when their own bytes are equal', whatever stands before them
abbrev pub SameExactly : List ℕ → List ℕ → Type 0
SameExactly bytes bytes' =
    (p p' : Parts) → reading bytes ≡ Ok p → reading bytes' ≡ Ok p'
    → (contents_at bytes p ≡ contents_at bytes' p') ↔ (own_bytes bytes p ≡ own_bytes bytes' p')
