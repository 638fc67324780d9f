-- `bodies_of` meets its contract: the word of each body is that of the place where it starts.
use Rattle.std.proofs.Common.{rules, refl, arith}
use Rattle.passes.specs.Mirror.{body_at}
use Rattle.follow.proofs.Ways.{mapped}
use Rattle.follow.proofs.run.bodies_of.Goals as goal

pub returns : goal.returns
returns c = record {
  long = c.map.ensures.items.long;
  each = λ g l.
      mapped _ _ (body_at c.args.words.now) (λ x y q k. search rules) c.args.starts.now c.map.result 32 0 _ refl c.map.ensures.items.each g (omega arith) l;
}
