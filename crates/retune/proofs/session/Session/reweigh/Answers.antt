use Rattle.std.proofs.Common.{ℕ, ◌+◌, List, sym, subst}
use Rattle.adv_base.specs.declared.workload.Statement.{Statement}
use Rattle.retune.specs.Steps.{AreReweighed}
use Rattle.retune.proofs.Reweighed.{alike, alike-cached, alike-proposed}
use Rattle.retune.proofs.session.Session.reweigh.Goals as goal

pub invariant_of-self : goal.invariant_of-self
invariant_of-self c =
    let s = c.self.inside in
    let xs = s.statements.items in
    let ys = c.set_weight.new.statements.items in
    let number : ℕ = c.in_ok-at.at + 1 in (
      c.reweigh.ensures ys (subst (λ (zs : List Statement). AreReweighed zs number c.args.weight ys) (sym c.as_slice.ensures.value) c.set_weight.ensures),
      alike-cached s.cat.now xs ys s.caches.items (alike xs ys number c.args.weight c.set_weight.ensures) c.self.invariant.1,
      alike-proposed s.cat.now xs ys s.proposed (alike xs ys number c.args.weight c.set_weight.ensures) c.self.invariant.2,
    )
