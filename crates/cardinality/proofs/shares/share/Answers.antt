use Rattle.std.proofs.Common.{◌≡◌, ◌∙◌, ℕ, suc, ◌+◌, ◌-◌, ◌*◌, ◌<◌, List, length, rules, arith, refl, sym, ap, ℤ, pos, FitsSigned, to_z, of_z, w64, slice_index_or}
use Rattle.std.specs.Prelude.{◌/◌, ◌≤ℤ◌, ◌<ℤ◌}
use Rattle.std.proofs.lemmas.Int.{ints, to_z-of_z}
use Rattle.adv_base.specs.Shares.{end_at, bucket, bucket_width, share}
use Rattle.adv_base.specs.Sums.{height}
use Rattle.adv_base.specs.declared.limits.TheConstants.{WHOLE}
use Rattle.adv_base.proofs.ShareLaws.{share-below, share-above, share-most}
use Rattle.cardinality.proofs.Bisections.{share-made}
use Rattle.cardinality.proofs.shares.share.Goals as goal

pub returns-then-value-ends-clause-exact : goal.returns-then-value-ends-clause-exact
returns-then-value-ends-clause-exact c =
    let first : FitsSigned w64 (slice_index_or c.args.ends.now 0 (pos 0)) = search rules in
    let low : c.args.value ≤ℤ end_at c.args.ends.now 0 = grind (arith, ints) in
    sym (share-below c.args.ends.now c.args.value low)

pub returns-then-value-ends-2-clause-exact : goal.returns-then-value-ends-2-clause-exact
returns-then-value-ends-2-clause-exact c =
    let first : FitsSigned w64 (slice_index_or c.args.ends.now 0 (pos 0)) = search rules in
    let last : FitsSigned w64 (slice_index_or c.args.ends.now (length c.args.ends.now - 1) (pos 0)) = search rules in
    let above : end_at c.args.ends.now 0 <ℤ c.args.value = grind (arith, ints) in
    let high : end_at c.args.ends.now (length c.args.ends.now - 1) ≤ℤ c.args.value = grind (arith, ints) in
    sym (share-above c.args.ends.now c.args.value above high)

made : (c : goal.After-height) → (0 < (length c.args.ends.now - 1) * c.height-width.result) ×
    (WHOLE * (c.bucket_of-bucket.result * c.height-width.result + c.height.result) / ((length c.args.ends.now - 1) * c.height-width.result) ≡ share c.args.ends.now c.args.value)
made c =
    let ends : List ℤ = c.args.ends.now in
    let i : ℕ = c.bucket_of-bucket.result in
    let first : FitsSigned w64 (slice_index_or ends 0 (pos 0)) = search rules in
    let last : FitsSigned w64 (slice_index_or ends (length ends - 1) (pos 0)) = search rules in
    let own : FitsSigned w64 (slice_index_or ends i (pos 0)) = search rules in
    let next : FitsSigned w64 (slice_index_or ends (i + 1) (pos 0)) = search rules in
    let above : end_at ends 0 <ℤ c.args.value = grind (arith, ints) in
    let below : c.args.value <ℤ end_at ends (length ends - 1) = grind (arith, ints) in
    let value : to_z w64 (of_z w64 c.args.value) ≡ c.args.value = to_z-of_z w64 c.args.value c.ranges.value in
    let low : to_z w64 (of_z w64 (slice_index_or ends i (pos 0))) ≡ end_at ends i = to_z-of_z w64 _ own in
    let at : i + 1 ≡ suc i = omega arith in
    let high : to_z w64 (of_z w64 (slice_index_or ends (i + 1) (pos 0))) ≡ end_at ends (suc i) = to_z-of_z w64 _ next ∙ ap (end_at ends) at in
    let is : i ≡ bucket ends c.args.value (length ends - 1) = rw (← value) c.bucket_of-bucket.ensures.exact in
    let wide : c.height-width.result ≡ bucket_width ends i = c.height-width.ensures ∙ rw (low, high) refl in
    let tall : c.height.result ≡ height c.args.value (end_at ends i) = c.height.ensures ∙ rw (value, low) refl in
    share-made ends c.args.value i c.height-width.result c.height.result above below is wide tall

pub nonzero_div-result : goal.nonzero_div-result
nonzero_div-result c = (made c).0

pub overflow_cast-result-3 : goal.overflow_cast-result-3
overflow_cast-result-3 c =
    let same = (made c).1 in
    let most = share-most c.args.ends.now c.args.value in
    search (rules, arith)

pub returns-clause-exact : goal.returns-clause-exact
returns-clause-exact c = (made c).1

pub returns-clause-most : goal.returns-clause-most
returns-clause-most c = let same = (made c).1 in let most = share-most c.args.ends.now c.args.value in omega (arith, same, most)
