use Rattle.std.proofs.Common.{◌≡◌, ℕ, ◌<◌, slice_index_or}
use Rattle.bip_model.specs.Values as values
use Rattle.bip_model.specs.Words as words
use Rattle.bip_model.proofs.costs.write_base.Given as goal

abbrev pub invariant-loop-o : goal.invariant-loop-o
invariant-loop-o l = (k : ℕ) → k < l.o → slice_index_or l.row k 0 ≡ words.word (values.price_of l.base k)
