use Rattle.std.proofs.Common.{◌≡◌, ◌∙◌, get_or, rules, sym, ap, arith}
use Rattle.std.proofs.lemmas.List.{get_or_default}
use Rattle.std.proofs.lemmas.List.Sorted.{IsPartitionPoint-from_clause}
use Rattle.bip_model.specs.declared.part.Part.{Part}
use Rattle.retune.proofs.PartWeights.{is_before, partitioned, none-has}
use Rattle.retune.proofs.weights.place_of.Goals as goal
use Rattle.retune.proofs.weights.place_of.Goals.{else-at-parts-via-then-at-parts+else-parts-at, else-at-parts-via-else-at-parts}

pub returns-clause-none : goal.returns-clause-none
returns-clause-none c =
    let parts = c.args.parts.now in
    let number = c.args.number in
    let at = c.partition_point-at.result in
    let point = IsPartitionPoint-from_clause (is_before number) parts at c.partition_point-at.ensures.partitioned (partitioned 1 number parts c.requires) (λ a r q k. search rules) in
    none-has 1 number at parts c.requires point
    (λ d there same. elim c.else-at-parts.branch [
      | else-at-parts-via-then-at-parts+else-parts-at w ↦
          let read : (get_or parts at d).statement ≡ (get_or parts at w.index-parts-at.result).statement = ap (λ (p : Part). p.statement) (get_or_default parts at d w.index-parts-at.result there) in
          absurd (w.if-parts-at.false (sym read ∙ same))
      | else-at-parts-via-else-at-parts w ↦ absurd (omega (arith, there, w.if-at-parts.false))
    ])
