use Rattle.std.proofs.Common.{◌≡◌, ℕ, ◌+◌, ◌<◌, ◌^◌, ◌++◌, ◌∷◌, List, [], length, get_or, map, ap, ◌∙◌, sym, refl, arith}
use Rattle.std.specs.Prelude.{fold}
use Rattle.std.proofs.lemmas.Grind.{common_steps}
use Rattle.adv_base.specs.declared.catalogue.Catalogue.{Catalogue}
use Rattle.adv_base.specs.declared.workload.block.Block.{Block}
use Rattle.adv_base.specs.Parts.{edge_part}
use Rattle.adv_base.specs.Rows.{set_rows, edges_back}
use Rattle.adv_base.specs.Sums.{times_part}
use Rattle.adv_base.specs.Rows.{AreRows}
use Rattle.cardinality.specs.Tables.{HoldsRows}
use Rattle.cardinality.proofs.RowLemmas.{set_rows-added}
use Rattle.cardinality.proofs.TableLemmas.{HoldsRows-push}
use Rattle.cardinality.proofs.table.add_slot.Goals as goal

same_read : (of : List ℕ) (i r : ℕ) → i < length of → r ≡ get_or of i r → r ≡ get_or of i 0
same_read of i r within read = grind (arith, common_steps)

pub loop-rest-preserved : goal.loop-rest-preserved
loop-rest-preserved c =
    let cat : Catalogue = c.args.ties.now.cat.now in
    let block : Block = c.args.ties.now.block.now in
    let rest : ℕ = c.loop-rest.rest in
    let slot : ℕ = c.args.slot in
    let of : List ℕ = c.loop-rest.of.items in
    let joined : ℕ = c.through-joined.result in
    let read : ℕ = c.index.result.now in
    let own : ℕ = c.slot_rows-own.result in
    let holds : HoldsRows cat block (2 ^ slot + rest) of = c.loop-rest.invariant in
    let below : rest < 2 ^ slot = omega (arith, c.requires.below.count) in
    let some : ℕ = 2 ^ slot in
    let within : rest < some + rest = omega arith in
    let count : length of ≡ some + rest = holds.count in
    let read-is : read ≡ set_rows cat block rest = same_read of rest read (omega arith) c.index.ensures ∙ holds.exact rest within in
    let joined-is : joined ≡ set_rows cat block (2 ^ slot + rest) =
    c.through-joined.ensures.exact
    ∙ ap (λ n. fold times_part n (map (edge_part cat block) (edges_back block rest slot)))
    (c.crossed.ensures.exact ∙ rw (read-is, c.slot_rows-own.ensures.exact) refl)
    ∙ sym (set_rows-added cat block rest slot below c.requires.there) in
    let are : AreRows joined = record { least = c.through-joined.ensures.least; most = c.through-joined.ensures.most } in
    let pushed : c.put.new.of.items ≡ of ++ joined ∷ [] = c.in_ok-put.ensures in
    let sets : 2 ^ slot + (rest + 1) ≡ (2 ^ slot + rest) + 1 = omega arith in
    rw (pushed, sets) (HoldsRows-push cat block (2 ^ slot + rest) of joined holds joined-is are)
