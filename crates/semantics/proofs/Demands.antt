-- Kinds, their values, and what a place demands:
--   same_contact_lem, contact_same            contacts are told apart
--   in_suffix, suffix_in, shorter_in      the suffixes that a list kind has
--   whole_in                              the whole traces are values of main's parameters
--   allows-own, allows-only               a demand for one kind allows that one, and no other
--   of_demand, demand_kind, demand_error   the outcomes that meet a demand; for one kind, those of that kind
use Prim.Native.Nat.{ℕ, suc, ◌≤◌}
use native.Mathlib.Omega.{arith}
use mathlib.Core.Path.{◌≡◌, refl, ap}
use mathlib.Core.Bool.{Bool, true, false, ◌&&◌}
use lib.ListN.{length}
use lib.Dec.{T, leb, leb→le, le→leb}
use Rattle.semantics.specs.declared.Contact.{Contact}
use Rattle.semantics.specs.declared.Contact.TheVariants.{Ram, Guard}
use Rattle.semantics.specs.declared.Sort.{Sort}
use Rattle.semantics.specs.declared.Sort.TheVariants.{One, Two}
use Rattle.semantics.specs.declared.Error.{Error}
use Rattle.semantics.specs.declared.Outcome.{Outcome}
use Rattle.semantics.specs.declared.Outcome.TheVariants.{Truth, Suffix, Failed}
use Rattle.semantics.specs.declared.Kind.{Kind}
use Rattle.semantics.specs.declared.Kind.TheVariants.{Truth as truth, List as list}
use Rattle.semantics.specs.declared.Demand.{Demand}
use Rattle.semantics.specs.declared.Demand.TheVariants.{Only as only, AnyList as any_list}
use Rattle.semantics.specs.Language.{main_params, Traces, trace_of, suffix, same_contact, in_kind, InKinds, whole_traces, allows}
use Rattle.semantics.specs.Cells.{of_kind}

-- ---- Contacts

pub same_contact_lem : (c : Contact) → same_contact c c ≡ true
same_contact_lem Ram = refl
same_contact_lem Guard = refl

pub contact_same : (c c' : Contact) → T (same_contact c c') → c ≡ c'
contact_same Ram Ram h = refl
contact_same Ram Guard h = absurd h
contact_same Guard Ram h = absurd h
contact_same Guard Guard h = refl

-- ---- Suffixes

pub in_suffix : (t : Traces) (c : Contact) (k : ℕ) → k ≤ length (trace_of t c) → T (in_kind t (list c) (suffix c k))
in_suffix t c k h = rw (same_contact_lem c) (le→leb k (length (trace_of t c)) h)

both : (a b : Bool) → T (a && b) → T a × T b
both true b h = (tt, h)
both false b h = absurd h

pub suffix_in : (t : Traces) (c c' : Contact) (k : ℕ) → T (in_kind t (list c) (suffix c' k)) → (c ≡ c') × (k ≤ length (trace_of t c))
suffix_in t c c' k h =
    let p = both (same_contact c c') (leb k (length (trace_of t c))) h in
    (contact_same c c' p.0, leb→le k (length (trace_of t c)) p.1)

pub shorter_in : (t : Traces) (κ : Kind) (c : Contact) (k : ℕ) → T (in_kind t κ (suffix c (suc k))) → T (in_kind t κ (suffix c k))
shorter_in t truth c k h = h
shorter_in t (list c') c k h = let p = suffix_in t c' c (suc k) h in rw (← p.0) (in_suffix t c' k (omega (arith, p.1)))

whole : (t : Traces) (c : Contact) → T (in_kind t (list c) (suffix c (length (trace_of t c))))
whole t c = in_suffix t c (length (trace_of t c)) (omega arith)

pub whole_in : (s : Sort) (t : Traces) → InKinds t (main_params s) (whole_traces s t)
whole_in One t = (whole t Ram, tt)
whole_in Two t = (whole t Ram, (whole t Guard, tt))

-- ---- Demands

pub allows-own : (κ : Kind) → T (allows (only κ) κ)
allows-own truth = tt
allows-own (list Ram) = tt
allows-own (list Guard) = tt

pub allows-only : (κ κ' : Kind) → T (allows (only κ) κ') → κ ≡ κ'
allows-only truth truth h = refl
allows-only truth (list c) h = absurd h
allows-only (list c) truth h = absurd h
allows-only (list c) (list c') h = ap list (contact_same c c' h)

-- an outcome meets a demand if it is of a kind that is allowed there
abbrev pub of_demand : Traces → Demand → Outcome → Bool
of_demand t (only κ) o = of_kind t κ o
of_demand t any_list (Truth b) = false
of_demand t any_list (Suffix c k) = of_kind t (list c) (Suffix c k)
of_demand t any_list (Failed x) = true

pub demand_error : (t : Traces) (d : Demand) (x : Error) → T (of_demand t d (Failed x))
demand_error t (only κ) x = tt
demand_error t any_list x = tt

pub demand_kind : (t : Traces) (d : Demand) (κ : Kind) (o : Outcome) → T (allows d κ) → T (of_kind t κ o) → T (of_demand t d o)
demand_kind t (only κ') κ o a h = rw (allows-only κ' κ a) h
demand_kind t any_list truth o a h = absurd a
demand_kind t any_list (list c) (Truth b) a h = h
demand_kind t any_list (list c) (Suffix c' k) a h = rw (suffix_in t c c' k h).0 at h
demand_kind t any_list (list c) (Failed x) a h = tt
