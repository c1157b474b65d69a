use Rattle.std.proofs.Common.{◌≡◌, ◌∙◌, ℕ, List, length, arith}
use Rattle.std.specs.Prelude.{slice_set}
use Rattle.std.proofs.lemmas.List.{length-set}
use Rattle.lagrange_bound.proofs.RentedPrices.{row-more, row-none}
use Rattle.lagrange_bound.proofs.walking.earn_row.Goals as goal

pub write_from-requires-clause-before : goal.write_from-requires-clause-before
write_from-requires-clause-before c =
    let long : length c.args.row.now ≡ 256 = c.told-row in
    let row : List ℕ = slice_set c.args.row.now 0 c.earn_two-least.result.0 in
    let same : length row ≡ 256 = length-set c.args.row.now 0 c.earn_two-least.result.0 ∙ long in
    row-more c.args.config.now c.args.slot.now c.args.rents.now row 1 c.earn_two-least.result.1 (omega (arith, same)) c.earn_two-least.ensures.second
    (row-more c.args.config.now c.args.slot.now c.args.rents.now c.args.row.now 0 c.earn_two-least.result.0 (omega (arith, long)) c.earn_two-least.ensures.first
    (row-none c.args.config.now c.args.slot.now c.args.rents.now c.args.row.now))
