use Rattle.std.proofs.Common.{◌≡◌, ◌<◌, ◌≤◌, ◌∙◌, sym, arith, length, ℕ, List, take, map, length-take}
use Rattle.std.specs.Prelude.{fold}
use Rattle.std.specs.List.{flat_map}
use Rattle.std.proofs.lemmas.List.{take_all}
use Rattle.std.proofs.lemmas.List.Folds.{length-prefix_len}
use Rattle.std.proofs.lemmas.List.Sums.{prefix_len-le-length}
use Rattle.adv_base.specs.declared.catalogue.Catalogue.{Catalogue}
use Rattle.adv_base.specs.declared.workload.block.Block.{Block}
use Rattle.adv_base.specs.Access.{point_keys}
use Rattle.adv_base.specs.Parts.{pred_part}
use Rattle.adv_base.specs.Predicates.{is_point, preds_on, has_pred}
use Rattle.adv_base.specs.Sums.{times_part}
use Rattle.access_paths.proofs.MatchLemmas.{matched_part-next, matched_part-last}
use Rattle.access_paths.proofs.matching.matched_part.Goals as goal

points_few : (block : Block) (s : ℕ) (keys : List ℕ) → length (point_keys block s keys) ≤ length keys
points_few block s keys =
    omega (arith, length-prefix_len (has_pred is_point block.preds s) keys, prefix_len-le-length (has_pred is_point block.preds s) keys)

-- behind the loop the leading keys are done
leading_done : (block : Block) (s : ℕ) (keys : List ℕ) (points i : ℕ) → points ≡ length (point_keys block s keys) → length (take points keys) ≤ i →
    take i (point_keys block s keys) ≡ point_keys block s keys
leading_done block s keys points i points-are past =
    let few : length (point_keys block s keys) ≤ length keys = points_few block s keys in
    let all : length (point_keys block s keys) ≤ i = omega (arith, length-take points keys) in
    take_all i (point_keys block s keys) all

pub returns-then-points-keys-clause-exact : goal.returns-then-points-keys-clause-exact
returns-then-points-keys-clause-exact c =
    let cat : Catalogue = c.args.cat.now in
    let block : Block = c.args.block.now in
    let s : ℕ = c.args.slot in
    let keys : List ℕ = c.args.keys.now in
    let points : ℕ = c.point_key_count-points.result in
    let points-are : points ≡ length (point_keys block s keys) = c.point_key_count-points.ensures in
    let done : take c.loop-key.key-index (point_keys block s keys) ≡ point_keys block s keys =
    leading_done block s keys points c.loop-key.key-index points-are c.loop-key-test.false in
    let part : c.loop-key.part ≡ fold times_part 1000000000 (map (pred_part cat block) (flat_map (preds_on is_point block.preds s) (point_keys block s keys))) =
    rw done at c.loop-key.invariant.part in
    let left : length (point_keys block s keys) < length keys = rw points-are at c.if-points-keys.true in
    c.through_ranges.ensures.exact ∙ rw (part, points-are) (sym (matched_part-next cat block s keys 0 left))

pub returns-else-points-keys-clause-exact : goal.returns-else-points-keys-clause-exact
returns-else-points-keys-clause-exact c =
    let cat : Catalogue = c.args.cat.now in
    let block : Block = c.args.block.now in
    let s : ℕ = c.args.slot in
    let keys : List ℕ = c.args.keys.now in
    let points : ℕ = c.point_key_count-points.result in
    let points-are : points ≡ length (point_keys block s keys) = c.point_key_count-points.ensures in
    let done : take c.loop-key.key-index (point_keys block s keys) ≡ point_keys block s keys =
    leading_done block s keys points c.loop-key.key-index points-are c.loop-key-test.false in
    let none : length keys ≤ length (point_keys block s keys) = rw points-are at c.if-points-keys.false in
    rw done at c.loop-key.invariant.part ∙ sym (matched_part-last cat block s keys none)
