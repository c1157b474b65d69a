use Rattle.std.proofs.Common.{◌≡◌, ◌∙◌, ap, arith, refl, ◌^◌, ℕ, ◌-◌, ◌<◌, length, take, List}
use Rattle.std.specs.Prelude.{slice_index}
use Rattle.std.proofs.lemmas.Nat.{pow_pos}
use Rattle.std.proofs.lemmas.List.{take_all}
use Rattle.adv_base.specs.Rows.{group_rows, set_rows}
use Rattle.adv_base.specs.Sets.{all_slots}
use Rattle.cardinality.proofs.groups.group_rows.Goals as goal

pub returns-clause-exact : goal.returns-clause-exact
unfolding group_rows
returns-clause-exact c =
    let n : ℕ = length c.args.block.now.slots in
    let of : List ℕ = c.args.rows.now.of in
    let some : 0 < 2 ^ n = pow_pos n in
    let last : length of - 1 ≡ 2 ^ n - 1 = ap (λ m. m - 1) c.requires.table.count in
    let all : take c.loop-item.item-index c.args.items.now ≡ c.args.items.now = take_all c.loop-item.item-index c.args.items.now c.loop-item-test.false in
    let whole : c.of_all.result ≡ set_rows c.args.cat.now c.args.block.now (all_slots n) =
    c.of_all.ensures ∙ ap (slice_index of) last ∙ c.requires.table.exact (2 ^ n - 1) (omega arith) in
    c.min.ensures ∙ rw (c.loop-item.invariant.product, all, whole) refl
