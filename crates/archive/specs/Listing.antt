-- The text that the listing program prints, of documents 01 ('Programs tried') and 02: a line for each record from the last.
use Rattle.std.specs.Prelude.{ℕ, zero, suc, ◌-◌, cond, List, [], ◌∷◌, ◌++◌, ltb, length, Option, Some, None, Result, Ok, Err}
use Rattle.refusal.specs.declared.Refusal.{Refusal}
use Rattle.refusal.specs.{number_of}
use Rattle.encoding.specs.{decimal}
use Rattle.layout.specs.declared.GuardTrace.{GuardTrace}
use Rattle.layout.specs.declared.Parts.{Parts}
use Rattle.record.specs.declared.Checked.{Checked}
use Rattle.record.specs.declared.Checked.TheVariants as checked
use Rattle.record.specs.Checking.{checking}
use Rattle.archive.specs.Walk.{Walk, ended, stopped, found, walk}

-- 'an archive of at most 32,768 bytes', '16,384 cells'
abbrev pub most_archive : ℕ
most_archive = 32768

abbrev pub listing_cells : ℕ
listing_cells = 16384

-- ---- Words, in ASCII

abbrev pub newline : List ℕ
newline = 0x0A ∷ []

abbrev pub space : List ℕ
space = 0x20 ∷ []

-- 'forever, no, yes, head or tail', by the number of the verdict
unfoldable pub verdict_word : ℕ → List ℕ
-- forever
verdict_word zero = 0x66 ∷ 0x6F ∷ 0x72 ∷ 0x65 ∷ 0x76 ∷ 0x65 ∷ 0x72 ∷ []
-- no
verdict_word (suc zero) = 0x6E ∷ 0x6F ∷ []
-- yes
verdict_word (suc (suc zero)) = 0x79 ∷ 0x65 ∷ 0x73 ∷ []
-- head
verdict_word (suc (suc (suc zero))) = 0x68 ∷ 0x65 ∷ 0x61 ∷ 0x64 ∷ []
-- tail
verdict_word (suc (suc (suc (suc n)))) = 0x74 ∷ 0x61 ∷ 0x69 ∷ 0x6C ∷ []

-- 'agrees, differs'
unfoldable pub answer_word : Checked → List ℕ
-- agrees
answer_word (checked.Agrees v) = 0x61 ∷ 0x67 ∷ 0x72 ∷ 0x65 ∷ 0x65 ∷ 0x73 ∷ []
-- differs
answer_word (checked.Differs v) = 0x64 ∷ 0x69 ∷ 0x66 ∷ 0x66 ∷ 0x65 ∷ 0x72 ∷ 0x73 ∷ []

-- 'or the number 21'
unfoldable pub check_word : Result Checked Refusal → List ℕ
check_word (Ok c) = answer_word c
check_word (Err f) = decimal (number_of f)

abbrev pub stop_word : List ℕ
stop_word = 0x73 ∷ 0x74 ∷ 0x6F ∷ 0x70 ∷ []

abbrev pub end_word : List ℕ
end_word = 0x65 ∷ 0x6E ∷ 0x64 ∷ []

abbrev pub too_long_words : List ℕ
too_long_words = 0x74 ∷ 0x6F ∷ 0x6F ∷ 0x20 ∷ 0x6C ∷ 0x6F ∷ 0x6E ∷ 0x67 ∷ []

-- ---- Lines; 'fields stand one space apart'

-- a field with the space after it
abbrev pub field : List ℕ → List ℕ
field text = text ++ space

-- 'both counts, ram first': the guard trace's after n, where there is one
unfoldable pub guard_field : Option GuardTrace → List ℕ
guard_field (Some g) = field (decimal g.samples)
guard_field None = []

-- n, and the guard trace's count
abbrev pub counts : ℕ → Option GuardTrace → List ℕ
counts n g = field (decimal n) ++ guard_field g

-- 'ordinal, record length, n, verdict word, then agrees, differs or the number 21'
unfoldable pub record_line : ℕ → ℕ → Parts → Result Checked Refusal → List ℕ
record_line ordinal size p c =
    field (decimal ordinal)
    ++ (field (decimal size)
    ++ (field (decimal p.n)
    ++ (guard_field p.guard
    ++ (field (verdict_word p.verdict)
    ++ (check_word c
    ++ newline)))))

-- 'stop, ordinal, number'
unfoldable pub stop_line : ℕ → Refusal → List ℕ
stop_line ordinal f = field stop_word ++ (field (decimal ordinal) ++ (decimal (number_of f) ++ newline))

-- 'end and the records listed'
unfoldable pub end_line : ℕ → List ℕ
end_line listed = field end_word ++ (decimal listed ++ newline)

-- ---- The listing

-- the lines of a walk, after so many records were listed
unfoldable pub lines_of : ℕ → Walk → List ℕ
lines_of listed ended = end_line listed
lines_of listed (stopped f) = stop_line (suc listed) f
lines_of listed (found bytes p w) =
    record_line (suc listed) (length bytes - p.program.start) p (checking bytes listing_cells) ++ lines_of (suc listed) w

-- 'a longer archive prints only too long'
unfoldable pub listing : List ℕ → List ℕ
listing archive = cond (ltb most_archive (length archive)) (too_long_words ++ newline) (lines_of 0 (walk archive))

-- room for every listing: a record of at least 19 bytes has a line of at most 34, one of at least 21, with a guard trace, a line of at
-- most 39, so less than two for each of its bytes, and the last line has at most 64: 2 × 32,768 + 64
abbrev pub listing_bytes : ℕ
listing_bytes = 65600
