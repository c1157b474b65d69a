use Rattle.std.proofs.Common.{length, refl, sym, ap, subst, arith}
use Rattle.std.proofs.lemmas.Option.{same_Some}
use Rattle.planner.specs.Cells.{row_of}
use Rattle.planner.specs.Cuts.{merge_at}
use Rattle.planner.specs.Rows.{IsCapped, width}
use Rattle.planner.specs.inner.Built.{IsCutChoice}
use Rattle.planner.proofs.Choosing.{merged_at}
use Rattle.planner.proofs.Tabling.{left_less, right_less, hash_small, merge_small, merges_mean}
use Rattle.planner.proofs.again.find_in_cut.Goals as goal

pub row_in-right-requires-clause-set_in : goal.row_in-right-requires-clause-set_in
row_in-right-requires-clause-set_in c =
    omega (arith, right_less c.args.ways.now c.args.set c.args.k c.args.cut.now c.requires.set_in c.requires.number c.requires.cut_is, c.requires.set_in)

pub overflow_add-hash-2 : goal.overflow_add-hash-2
overflow_add-hash-2 c =
    let left = (subst IsCapped (sym c.row_in-left.ensures.row) (c.requires.done c.args.cut.now.left (left_less c.args.ways.now c.args.set c.args.k c.args.cut.now c.requires.set_in c.requires.number c.requires.cut_is))).cost 0 in
    let right = (subst IsCapped (sym c.row_in-right.ensures.row) (c.requires.done c.args.cut.now.right (right_less c.args.ways.now c.args.set c.args.k c.args.cut.now c.requires.set_in c.requires.number c.requires.cut_is))).cost 0 in
    let small = hash_small c.args.ways.now c.args.set c.args.k c.args.cut.now c.requires.set_in c.requires.number c.requires.cut_is in
    omega (arith, left, right, small, c.cost_of.ensures, c.cost_of-2.ensures)

pub find_merge-requires-clause-left_capped : goal.find_merge-requires-clause-left_capped
find_merge-requires-clause-left_capped c =
    subst IsCapped (sym c.row_in-left.ensures.row) (c.requires.done c.args.cut.now.left (left_less c.args.ways.now c.args.set c.args.k c.args.cut.now c.requires.set_in c.requires.number c.requires.cut_is))

pub find_merge-requires-clause-right_capped : goal.find_merge-requires-clause-right_capped
find_merge-requires-clause-right_capped c =
    subst IsCapped (sym c.row_in-right.ensures.row) (c.requires.done c.args.cut.now.right (right_less c.args.ways.now c.args.set c.args.k c.args.cut.now c.requires.set_in c.requires.number c.requires.cut_is))

pub find_merge-requires-clause-price_most : goal.find_merge-requires-clause-price_most
find_merge-requires-clause-price_most c =
    merge_small c.args.ways.now c.args.set c.args.k c.args.cut.now c.requires.set_in c.requires.number c.requires.cut_is

pub find_merge-requires-clause-needs_in : goal.find_merge-requires-clause-needs_in
find_merge-requires-clause-needs_in c =
    λ j h.
    let m = merges_mean c.args.ways.now c.args.set c.args.k c.args.cut.now c.requires.set_in c.requires.number c.requires.cut_is c.merges_at-merges.result.now c.merges_at-merges.ensures j h in
    omega (arith, m.0, ap length c.as_slice-heads.ensures.value, c.args.ways.now.known.needs.first.count)

pub find_merge-requires-clause-fronts_in : goal.find_merge-requires-clause-fronts_in
find_merge-requires-clause-fronts_in c =
    λ j h.
    let m = merges_mean c.args.ways.now c.args.set c.args.k c.args.cut.now c.requires.set_in c.requires.number c.requires.cut_is c.merges_at-merges.result.now c.merges_at-merges.ensures j h in
    omega (arith, m.1, ap length c.as_slice-heads.ensures.value, c.args.ways.now.known.needs.first.count)

pub choose-requires : goal.choose-requires
choose-requires c = (c.in-Some.ensures.found (c.in-Some.j, c.in-Some.front) refl).within

pub returns-in-Some-clause-found : goal.returns-in-Some-clause-found
returns-in-Some-clause-found c =
    λ x e.
    let ways = c.args.ways.now in
    let cut = c.args.cut.now in
    let rows = row_of (width ways) c.args.cells.now in
    let by_merge = merged_at ways rows cut c.row_in-left.result.now c.row_in-right.result.now c.merges_at-merges.result.now c.as_slice-heads.result.now c.args.f c.args.cost c.in-Some.j c.in-Some.front c.as_slice-heads.ensures.value c.row_in-left.ensures.row c.row_in-right.ensures.row c.merges_at-merges.ensures (c.in-Some.ensures.found (c.in-Some.j, c.in-Some.front) refl) in
    let edge = ap (λ ms. (merge_at ms c.in-Some.j).edge) c.merges_at-merges.ensures in
    let right = ap (λ ms. (merge_at ms c.in-Some.j).right_front) c.merges_at-merges.ensures in
    subst (IsCutChoice ways rows cut c.args.f c.args.cost) (same_Some c.choose.result x e) (subst (IsCutChoice ways rows cut c.args.f c.args.cost) (sym c.choose.ensures) (refl, (c.in-Some.j, by_merge, edge, right)))
