use Rattle.std.proofs.Common.{◌≡◌, List, drop, length, sym, ap, subst, arith}
use Rattle.std.specs.Prelude.{All}
use Rattle.std.proofs.lemmas.List.{length-map, length-drop, drop-drop}
use Rattle.std.proofs.lemmas.List.Elements.{All-drop}
use Rattle.adv_base.specs.Limits.Numbers.{KeyLimits}
use Rattle.candidates.specs.Growing.{TheProposed}
use Rattle.candidates.specs.Proposals.{Proposal}
use Rattle.candidates.specs.inner.Known.{as_proposal, as_proposals}
use Rattle.candidates.proofs.proposed.Proposed.shapes.Goals as goal

pub overflow_add-self-inside : goal.overflow_add-self-inside
overflow_add-self-inside c =
    let ks = c.self.inside.known.keys in
    let fresh : length (drop c.self.inside.existing (as_proposals ks)) ≡ length c.args.self.now.fresh = ap (λ (p : TheProposed). length p.fresh) c.self.view_is in
    omega (arith, c.self.invariant, c.requires.order, c.requires.within, fresh, length-drop c.self.inside.existing (as_proposals ks), length-map ks as_proposal, c.len-all.ensures.len)

pub overflow_add-self-inside-2 : goal.overflow_add-self-inside-2
overflow_add-self-inside-2 c =
    let ks = c.self.inside.known.keys in
    let fresh : length (drop c.self.inside.existing (as_proposals ks)) ≡ length c.args.self.now.fresh = ap (λ (p : TheProposed). length p.fresh) c.self.view_is in
    omega (arith, c.self.invariant, c.requires.within, fresh, length-drop c.self.inside.existing (as_proposals ks), length-map ks as_proposal, c.len-all.ensures.len)

pub shapes_between-requires-clause-limits : goal.shapes_between-requires-clause-limits
shapes_between-requires-clause-limits c =
    let all : List Proposal = as_proposals c.self.inside.known.keys in
    subst (All (λ (p : Proposal). KeyLimits p.keys)) (drop-drop c.args.from c.self.inside.existing all)
    (All-drop (λ (p : Proposal). KeyLimits p.keys) c.args.from (drop c.self.inside.existing all)
    (subst (λ (p : TheProposed). All (λ (q : Proposal). KeyLimits q.keys) p.fresh) (sym c.self.view_is) c.requires.limits))
