-- 'Kind faults told apart' of document 02: how the answers of today stand to those of the time when 16 was the number of all
-- kind faults.
use Rattle.std.specs.Prelude.{ℕ, ◌≡◌, List, Err}
use Rattle.refusal.specs.declared.Refusal.{Refusal}
use Rattle.refusal.specs.declared.Refusal.TheVariants.{WrongKind}
use Rattle.rule.specs.Wanted.{Wanted}
use Rattle.semantics.specs.Language.{Program}
use Rattle.rule.specs.declared.expression.Fault.{Fault}
use Rattle.rule.specs.Reading.{Parsed, got, refused, apart, program_by, check_from, program_check}

-- all faults told by 16
abbrev pub alike : Fault → Refusal
alike φ = WrongKind

-- what bytes were read as at that time
abbrev pub program_before : Wanted → List ℕ → Parsed Program
program_before wanted bs = program_by alike wanted bs

-- a refusal that is no kind fault: neither 16, 25 nor 26
abbrev pub NoKindFault : Refusal → Type 0
NoKindFault f = (φ : Fault) → f ≡ apart φ → ⊥

-- a reading of today and one of that time: the same was read, or refused by the same number, but for kind faults
pub data Told {A : Type 0} : Parsed A → Parsed A → Type 0 where
  read : (a : A) (rest : List ℕ) → Told (got a rest) (got a rest)
  kind_fault : (φ : Fault) → Told (refused (apart φ)) (refused (alike φ))
  other : (f : Refusal) → NoKindFault f → Told (refused f) (refused f)

-- refused today by 16, 25 or 26
abbrev pub KindFault : Wanted → List ℕ → Type 0
KindFault wanted bs = (φ : Fault) × (program_check wanted bs ≡ Err (apart φ))

-- refused by 16 at that time
abbrev pub KindFaultBefore : Wanted → List ℕ → Type 0
KindFaultBefore wanted bs = check_from (program_before wanted bs) ≡ Err WrongKind

-- bytes are refused by 16, 25 or 26 exactly where they were refused by 16
abbrev pub SameFaults : Type 0
SameFaults = (wanted : Wanted) (bs : List ℕ) → (KindFault wanted bs → KindFaultBefore wanted bs) × (KindFaultBefore wanted bs → KindFault wanted bs)
