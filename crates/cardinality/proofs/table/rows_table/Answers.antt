use Rattle.std.proofs.Common.{◌≡◌, ◌∷◌, ◌++◌, [], List, ℕ, ap, ◌∙◌}
use Rattle.cardinality.proofs.TableLemmas.{HoldsRows-empty}
use Rattle.cardinality.proofs.table.rows_table.Goals as goal

pub loop-slot-init : goal.loop-slot-init
loop-slot-init c =
    let pushed : c.put.new.of.items ≡ c.new-of.result.items ++ 1 ∷ [] = c.in_ok-put.ensures in
    let empty : c.new-of.result.items ≡ [] = c.new-of.ensures.items in
    let first : c.put.new.of.items ≡ 1 ∷ [] = pushed ∙ ap (λ (xs : List ℕ). xs ++ 1 ∷ []) empty in
    rw first (HoldsRows-empty c.args.cat.now c.args.block.now)
