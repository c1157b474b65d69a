use Rattle.std.proofs.Common.{◌≡◌, ℕ, ◌<◌, length, fold, take, slice_index_or}
use Rattle.bip_model.specs.Values as values
use Rattle.bip_model.specs.Words as words
use Rattle.bip_model.proofs.costs.write_row.Given as goal

abbrev pub invariant-loop-grant : goal.invariant-loop-grant
invariant-loop-grant l =
    (o : ℕ) → o < length l.slot.base →
    slice_index_or l.row o 0 ≡ words.word (fold (λ best grant. values.lesser best (values.granted l.config o grant)) (values.price_of l.slot.base o) (take l.grant-index l.slot.grants))
