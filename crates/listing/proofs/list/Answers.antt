-- The text lies within the output.
use Rattle.std.proofs.Common.{sym}
use Rattle.std.proofs.lemmas.List.{length-take-le}
use Rattle.encoding.proofs.Putting.{begins-within}
use Rattle.listing.proofs.list.Goals as goal

pub slice_bounds-text-end : goal.slice_bounds-text-end
slice_bounds-text-end g c = rw (c.list-size.ensures.size, c.list-size.ensures.output) (begins-within _ _)

pub slice_bounds-write_all-end : goal.slice_bounds-write_all-end
slice_bounds-write_all-end g c = sym (length-take-le _ _ (rw (c.list-size.ensures.size, c.list-size.ensures.output) (begins-within _ _)))
