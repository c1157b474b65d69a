use Rattle.std.proofs.Common.{◌≡◌, ◌++◌, take, codes}
use Rattle.std.specs.List.{flat_map}
use Rattle.plan_model.specs.PlanTexts.{item_words}
use Rattle.plan_model.proofs.words.push_items.Given as goal

abbrev pub invariant-loop-item : goal.invariant-loop-item
invariant-loop-item l =
    l.text.items ≡ l.initial.text.items ++ flat_map (λ y. codes ", " ++ item_words l.labels y) (take l.item-index l.rest)
