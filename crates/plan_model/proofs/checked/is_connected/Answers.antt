use Rattle.std.proofs.Common.{◌≡◌, ℕ, ◌-◌, ◌^◌, bit_and, true, ◌||◌, List, [], ◌∷◌, map, refl, sym, ap, ◌∙◌, subst, arith}
use Rattle.std.specs.List.{list_any}
use Rattle.std.proofs.lemmas.Bool.{false≢true}
use Rattle.adv_base.specs.Sets.{is_crossing}
use Rattle.plan_model.specs.declared.edge.TaskEdge.{TaskEdge}
use Rattle.plan_model.specs.Limits.Tasks.{ends}
use Rattle.plan_model.specs.Plans.{crosses}
use Rattle.plan_model.proofs.checked.is_connected.Goals as goal

any-ends : (a b : ℕ) (edges : List TaskEdge) → list_any (is_crossing a b) (map ends edges) ≡ list_any (crosses a b) edges
any-ends a b [] = refl
any-ends a b (e ∷ es) = ap (λ t. crosses a b e || t) (any-ends a b es)

pub returns-then-not-are_joined : goal.returns-then-not-are_joined
returns-then-not-are_joined c =
    let part = c.loop-part.part in
    let all = c.all_slots-all.result in
    let is : all ≡ 2 ^ c.args.slots - 1 = c.all_slots-all.ensures.exact in
    let none = sym c.are_joined.ensures ∙ c.if-not-are_joined.true in (
      λ yes. absurd (false≢true yes),
      λ connected.
          absurd (false≢true (sym none ∙ (sym (any-ends part (all - part) c.args.edges.now) ∙ connected part (all - part) (omega arith) (omega arith) (omega arith) c.if-part-all-eq0.true))),
    )

pub returns : goal.returns
returns c =
    let all = c.all_slots-all.result in
    let is : all ≡ 2 ^ c.args.slots - 1 = c.all_slots-all.ensures.exact in (
      λ yes a b some_a some_b sum apart.
          let rest : all - a ≡ b = omega arith in
          let apart' : bit_and a (all - a) ≡ 0 = rw rest apart in
          let crossed = c.loop-part.invariant a some_a (omega arith) apart' in
          any-ends a b c.args.edges.now ∙ subst (λ t. list_any (crosses a t) c.args.edges.now ≡ true) rest crossed,
      λ connected. refl,
    )
