use Rattle.std.proofs.Common.{◌≡◌, ◌++◌, drop, map}
use Rattle.bip_model.specs.Words.{word}
use Rattle.lagrange_bound.proofs.price_lists.push_bases.Given as goal

abbrev pub invariant-loop-price : goal.invariant-loop-price
invariant-loop-price l = l.bases.items ++ map word (drop l.price-index l.base) ≡ l.initial.bases.items ++ map word l.base
