-- The part that an index matches, by its leading keys and the next one.
use Rattle.std.proofs.Common.{◌≡◌, ℕ, ◌<◌, ◌≤◌, List, [], ◌∷◌, length, get_or, map, refl, ◌∙◌, ap, drop-cons}
use Rattle.std.specs.Prelude.{fold}
use Rattle.std.specs.List.{flat_map}
use Rattle.std.proofs.lemmas.List.{map-append, drop_all, append-nil}
use Rattle.std.proofs.lemmas.List.Sums.{fold-append}
use Rattle.adv_base.specs.declared.catalogue.Catalogue.{Catalogue}
use Rattle.adv_base.specs.declared.workload.block.Block.{Block}
use Rattle.adv_base.specs.Access.{point_keys, range_keys, matched_preds, matched_part}
use Rattle.adv_base.specs.Parts.{pred_part}
use Rattle.adv_base.specs.Predicates.{is_point, is_range, preds_on}
use Rattle.adv_base.specs.Sums.{times_part}

-- first through the predicates of the leading keys, then through those of the next
pub matched_part-steps : (cat : Catalogue) (block : Block) (s : ℕ) (keys : List ℕ) →
    matched_part cat block s keys ≡ fold times_part
    (fold times_part 1000000000 (map (pred_part cat block) (flat_map (preds_on is_point block.preds s) (point_keys block s keys))))
    (map (pred_part cat block) (flat_map (preds_on is_range block.preds s) (range_keys block s keys)))
unfolding matched_part matched_preds
matched_part-steps cat block s keys =
    let points = flat_map (preds_on is_point block.preds s) (point_keys block s keys) in
    let ranges = flat_map (preds_on is_range block.preds s) (range_keys block s keys) in
    ap (fold times_part 1000000000) (map-append (pred_part cat block) points ranges)
    ∙ fold-append times_part 1000000000 (map (pred_part cat block) points) (map (pred_part cat block) ranges)

-- where no key is left
pub matched_part-last : (cat : Catalogue) (block : Block) (s : ℕ) (keys : List ℕ) → length keys ≤ length (point_keys block s keys) →
    matched_part cat block s keys ≡ fold times_part 1000000000 (map (pred_part cat block) (flat_map (preds_on is_point block.preds s) (point_keys block s keys)))
matched_part-last cat block s keys past =
    matched_part-steps cat block s keys ∙ rw (drop_all (length (point_keys block s keys)) keys past) refl

-- where a key is left
pub matched_part-next : (cat : Catalogue) (block : Block) (s : ℕ) (keys : List ℕ) (d : ℕ) → length (point_keys block s keys) < length keys →
    matched_part cat block s keys ≡ fold times_part
    (fold times_part 1000000000 (map (pred_part cat block) (flat_map (preds_on is_point block.preds s) (point_keys block s keys))))
    (map (pred_part cat block) (preds_on is_range block.preds s (get_or keys (length (point_keys block s keys)) d)))
matched_part-next cat block s keys d within =
    let next : ℕ = get_or keys (length (point_keys block s keys)) d in
    let one : range_keys block s keys ≡ next ∷ [] = rw (drop-cons keys (length (point_keys block s keys)) d within) refl in
    let whole : flat_map (preds_on is_range block.preds s) (range_keys block s keys) ≡ preds_on is_range block.preds s next =
    ap (flat_map (preds_on is_range block.preds s)) one ∙ append-nil (preds_on is_range block.preds s next) in
    matched_part-steps cat block s keys ∙ rw whole refl
