use Rattle.std.proofs.Common.{rules}
use Rattle.std.proofs.lemmas.List.Sorted.{answers_always}
use Rattle.plan_model.specs.declared.template.Template.{Template}
use Rattle.inum_cache.proofs.Thinning.{from-sorted}
use Rattle.inum_cache.proofs.top.put_in_order.Goals as goal

pub returns-clause-ordered : goal.returns-clause-ordered
returns-clause-ordered c =
    from-sorted c.sort_unstable_by_key.new.self.items (c.sort_unstable_by_key.ensures.sorted (λ (t : Template). t.needs) (answers_always _ _ _ (λ f a r f' k. search rules)))
