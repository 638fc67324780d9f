-- Headers and nodes, of documents 01 ('Program bytes', and 6 to 9 of 'What is refused') and 02.
use Rattle.std.specs.Prelude.{ℕ, zero, suc, ◌+◌, ◌-◌, ◌%◌, ◌^◌, Bool, false, not, ◌&&◌, ◌||◌, cond, List, [], ◌∷◌, length, get_or, ltb, leb, eqb, Result, Ok, Err}
use Rattle.refusal.specs.declared.Refusal.{Refusal}
use Rattle.refusal.specs.declared.Refusal.TheVariants.{HeaderCut, ParameterKinds, BodyLength}
use Rattle.trace.specs.{bit_of}
use Rattle.encoding.specs.{from_low}
use Rattle.semantics.specs.declared.Sort.{Sort}
use Rattle.semantics.specs.declared.Sort.TheVariants.{One, Two}
use Rattle.syntax.specs.declared.Header.{Header}
use Rattle.syntax.specs.declared.Node.{Node}
use Rattle.syntax.specs.declared.Node.TheVariants as node
use Rattle.syntax.specs.Limits.{most_functions, most_params, most_body}

-- ---- The function count byte: 6

-- 'count plus 0x80 marks a two-contact program'
abbrev pub two_mark : ℕ
two_mark = 0x80

abbrev pub count_byte : Sort → ℕ → ℕ
count_byte One count = count
count_byte Two count = two_mark + count

-- the sort and the count that a byte says
abbrev pub sort_in : ℕ → Sort
sort_in byte = cond (ltb byte two_mark) One Two

abbrev pub count_in : ℕ → ℕ
count_in byte = cond (ltb byte two_mark) byte (byte - two_mark)

-- 6: 'the function count is 0 or above 32'
abbrev pub count_fault : ℕ → Bool
count_fault byte = eqb (count_in byte) 0 || ltb most_functions (count_in byte)

-- ---- Headers: 7 to 9

-- 'four header bytes'; of two contacts 'a fifth byte, between the kinds and the body length'
abbrev pub header_bytes : Sort → ℕ
header_bytes One = 4
header_bytes Two = 5

-- the byte that says which lists are of the guard; of one contact none is
abbrev pub guard_byte_in : Sort → List ℕ → ℕ
guard_byte_in One bs = 0
guard_byte_in Two bs = get_or bs 2 0

-- 8: 'the parameter count is above 4, or a kind bit is set for an absent parameter or among bits 5 to 7'
abbrev pub kinds_fault : ℕ → ℕ → Bool
kinds_fault params kinds = ltb most_params params || (leb (2 ^ params) (kinds % 16) || leb 32 kinds)

-- whether one of the lowest so many bits is set in the guard byte and not in the kinds byte
unfoldable pub no_list_below : ℕ → ℕ → ℕ → Bool
no_list_below zero kinds guard = false
no_list_below (suc i) kinds guard = no_list_below i kinds guard || (bit_of i guard && not (bit_of i kinds))

-- 8 of the fifth byte: 'a bit set where no list is, or among bits 5 to 7'
abbrev pub guard_fault : ℕ → ℕ → Bool
guard_fault kinds guard = leb 32 guard || no_list_below 5 kinds guard

-- 9: 'the body length is 0, above 1,024 or above what remains'
abbrev pub length_fault : ℕ → ℕ → Bool
length_fault size remains = eqb size 0 || (ltb most_body size || ltb remains size)

-- 'body length, 16 bits, low byte first': the last two bytes
abbrev pub body_length : Sort → List ℕ → ℕ
body_length s bs = from_low (get_or bs (header_bytes s - 2) 0 ∷ get_or bs (header_bytes s - 1) 0 ∷ [])

-- the header at the front of some bytes; 7: 'fewer than four bytes remain for a header', of two contacts fewer than five
unfoldable pub header_of : Sort → List ℕ → Result Header Refusal
header_of s bs =
    cond (ltb (length bs) (header_bytes s)) (Err HeaderCut)
    (cond (kinds_fault (get_or bs 0 0) (get_or bs 1 0) || guard_fault (get_or bs 1 0) (guard_byte_in s bs)) (Err ParameterKinds)
    (cond (length_fault (body_length s bs) (length bs - header_bytes s)) (Err BodyLength)
    (Ok (record { params = get_or bs 0 0; kinds = get_or bs 1 0; guard = guard_byte_in s bs; length = body_length s bs }))))

-- ---- Nodes

-- the table of expression bytes
unfoldable pub node_of : ℕ → Node
node_of b =
    cond (eqb b 0x00) node.False
    (cond (eqb b 0x01) node.True
    (cond (eqb b 0x02) node.Empty
    (cond (eqb b 0x03) node.EmptyGuard
    (cond (leb 0x10 b && leb b 0x13) (node.Param (b - 0x10))
    (cond (eqb b 0x20) node.Head
    (cond (eqb b 0x21) node.Tail
    (cond (eqb b 0x22) node.Null
    (cond (eqb b 0x23) node.If
    (cond (eqb b 0x24) node.Cons
    (cond (leb 0x80 b && leb b 0x9F) (node.Call (b - 0x80)) node.Unknown))))))))))
