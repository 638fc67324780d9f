-- `count_of` meets its contract: its test is that of the mark.
use borrow.Author.Tests.{lt-ltb, le-ltb}
use Rattle.syntax.proofs.headers.count_of.Goals as goal

pub returns-then-byte-lt-TWO_MARK : goal.returns-then-byte-lt-TWO_MARK
returns-then-byte-lt-TWO_MARK c = simp (lt-ltb _ _ c.if-byte-lt-TWO_MARK.true)

pub returns-else-byte-lt-TWO_MARK : goal.returns-else-byte-lt-TWO_MARK
returns-else-byte-lt-TWO_MARK c = simp (le-ltb _ _ c.if-byte-lt-TWO_MARK.false)
