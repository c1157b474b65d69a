use Rattle.std.proofs.Common.{◌≡◌, ◌∙◌, ℕ, ◌-◌, List, [], ◌∷◌, ◌++◌, length, take, sym, ap, subst, arith}
use Rattle.std.specs.Prelude.{Option}
use Rattle.adv_base.specs.declared.workload.Statement.{Statement}
use Rattle.adv_base.specs.Limits.Settings.{SettingLimits}
use Rattle.adv_base.specs.Named.{NamesWork}
use Rattle.bip_model.specs.declared.programme.Programme.{Programme}
use Rattle.candidates.specs.declared.answer.Candidates.{Candidates}
use Rattle.candidates.specs.Growing.{IsProposed}
use Rattle.inum_cache.specs.declared.cache.Cache.{Cache}
use Rattle.programme_parts.specs.Caches.{AreCached}
use Rattle.programme_parts.specs.Combinations.{HasFew}
use Rattle.retune.specs.Sessions.{TheSession, IsTuned, the_session}
use Rattle.retune.specs.Steps.{HasRoom, HasSlots}
use Rattle.retune.proofs.Moving.{all-but-last}
use Rattle.retune.proofs.Shortened.{shortened, shorter}
use Rattle.retune.proofs.Steps.{limits-more, cached-more}
use Rattle.retune.proofs.session.Session.add.Goals as goal

pub widen-requires-clause-limits : goal.widen-requires-clause-limits
widen-requires-clause-limits c =
    let s = c.self.inside in
    let statement = c.args.statement in
    let same : s.statements.items ≡ c.args.self.now.statements = ap (λ (session : TheSession). session.statements) c.self.view_is in
    let room = subst HasRoom (sym same) c.in_ok-admits.ensures.room in
    let slots = subst (λ (xs : List Statement). HasSlots xs statement) (sym same) c.in_ok-admits.ensures.slots in
    let named = subst (λ (session : TheSession). NamesWork session.cat statement.work) (sym c.self.view_is) c.requires in
    subst (λ (xs : List Statement). SettingLimits s.cat.now xs []) (sym (c.as_slice.ensures.value ∙ c.in-Ok.ensures.statements))
    (limits-more s.cat.now s.statements.items s.candidates.list statement c.self.invariant.0.limits room slots named)

pub widen-requires-clause-cached : goal.widen-requires-clause-cached
widen-requires-clause-cached c =
    let s = c.self.inside in
    cached-more s.cat.now s.statements.items s.caches.items c.args.statement c.in_ok-cache.cache _ _ c.self.invariant.1 c.in_ok-cache.ensures.cache
    (c.as_slice.ensures.value ∙ c.in-Ok.ensures.statements) (c.as_slice-2.ensures.value ∙ c.in-Ok.ensures.caches)

pub widen-requires-clause-proposed : goal.widen-requires-clause-proposed
widen-requires-clause-proposed c =
    let s = c.self.inside in
    subst (λ (xs : List Statement). IsProposed s.cat.now xs c.add.new.self) (sym (c.as_slice.ensures.value ∙ c.in-Ok.ensures.statements))
    (c.in_ok-add.ensures.added s.statements.items c.self.invariant.2)

pub widen-requires-clause-before : goal.widen-requires-clause-before
widen-requires-clause-before c =
    let s = c.self.inside in
    let all : c.as_slice.result.now ≡ s.statements.items ++ c.args.statement ∷ [] = c.as_slice.ensures.value ∙ c.in-Ok.ensures.statements in
    let front : take (length c.as_slice.result.now - 1) c.as_slice.result.now ≡ s.statements.items =
    ap (λ (xs : List Statement). take (length xs - 1) xs) all ∙ all-but-last s.statements.items c.args.statement in
    subst (λ (xs : List Statement). IsTuned (the_session s.cat.now xs s.candidates s.programme)) (sym front) c.self.invariant.0

pub returns-in-Ok-widen-clause-can : goal.returns-in-Ok-widen-clause-can
returns-in-Ok-widen-clause-can c =
    record {
      room = c.in_ok-admits.ensures.room;
      slots = c.in_ok-admits.ensures.slots;
      few = subst (λ (session : TheSession). HasFew session.cat c.args.statement) c.self.view_is c.in_ok-cache.ensures.few;
    }

pub shorten-requires : goal.shorten-requires
shorten-requires c =
    let s = c.self.inside in
    let few = shorter s.cat.now s.statements.items c.args.statement s.proposed c.add.new.self c.self.invariant.2 (c.in_ok-add.ensures.added s.statements.items c.self.invariant.2) in
    omega (arith, few, c.len-before.ensures)

pub shorten-requires-in-Err-widen : goal.shorten-requires-in-Err-widen
shorten-requires-in-Err-widen c =
    let s = c.self.inside in
    let few = shorter s.cat.now s.statements.items c.args.statement s.proposed c.add.new.self c.self.invariant.2 (c.in_ok-add.ensures.added s.statements.items c.self.invariant.2) in
    omega (arith, few, c.len-before.ensures)

pub invariant_of-self-in-Err : goal.invariant_of-self-in-Err
invariant_of-self-in-Err c =
    let s = c.self.inside in
    let proposed = shortened s.cat.now s.statements.items c.args.statement s.proposed c.add.new.self c.shorten.new.self c.len-before.result c.self.invariant.2
    (c.in_ok-add.ensures.added s.statements.items c.self.invariant.2) c.len-before.ensures c.shorten.ensures in
    let same = sym c.in-Err.ensures.same in (
      subst (λ (xs : List Statement). IsTuned (the_session s.cat.now xs s.candidates s.programme)) same c.self.invariant.0,
      subst (λ (ys : List (Option Cache)). AreCached s.cat.now c.grow.new.statements.items ys) (sym c.in-Err.ensures.same_caches)
          (subst (λ (xs : List Statement). AreCached s.cat.now xs s.caches.items) same c.self.invariant.1),
      subst (λ (xs : List Statement). IsProposed s.cat.now xs c.shorten.new.self) same proposed,
    )

pub invariant_of-self-in-Ok-widen : goal.invariant_of-self-in-Ok-widen
invariant_of-self-in-Ok-widen c =
    let s = c.self.inside in
    let grown = c.in-Ok.ensures.statements in (
      subst (λ (xs : List Statement). IsTuned (the_session s.cat.now xs c.widen.new.found c.widen.new.programme)) c.as_slice.ensures.value c.in-Ok-widen.ensures.after,
      cached-more s.cat.now s.statements.items s.caches.items c.args.statement c.in_ok-cache.cache _ _ c.self.invariant.1 c.in_ok-cache.ensures.cache grown c.in-Ok.ensures.caches,
      subst (λ (xs : List Statement). IsProposed s.cat.now xs c.add.new.self) (sym grown) (c.in_ok-add.ensures.added s.statements.items c.self.invariant.2),
    )

pub invariant_of-self-in-Err-widen : goal.invariant_of-self-in-Err-widen
invariant_of-self-in-Err-widen c =
    let s = c.self.inside in
    let proposed = shortened s.cat.now s.statements.items c.args.statement s.proposed c.add.new.self c.shorten-in-Err-widen.new.self c.len-before.result c.self.invariant.2
    (c.in_ok-add.ensures.added s.statements.items c.self.invariant.2) c.len-before.ensures c.shorten-in-Err-widen.ensures in
    let statements : c.shrink.new.statements.items ≡ s.statements.items =
    c.shrink.ensures.statements ∙ ap (λ (xs : List Statement). take (length xs - 1) xs) c.in-Ok.ensures.statements ∙ all-but-last s.statements.items c.args.statement in
    let caches : c.shrink.new.caches.items ≡ s.caches.items =
    c.shrink.ensures.caches ∙ ap (λ (ys : List (Option Cache)). take (length ys - 1) ys) c.in-Ok.ensures.caches ∙ all-but-last s.caches.items c.in_ok-cache.cache in
    let same = sym statements in (
      subst (λ (xs : List Statement). IsTuned (the_session s.cat.now xs c.widen.new.found c.widen.new.programme)) same
          (subst (λ (found : Candidates). IsTuned (the_session s.cat.now s.statements.items found c.widen.new.programme)) (sym c.in-Err-widen.ensures.same)
          (subst (λ (programme : Programme). IsTuned (the_session s.cat.now s.statements.items s.candidates programme)) (sym c.in-Err-widen.ensures.same_programme) c.self.invariant.0)),
      subst (λ (ys : List (Option Cache)). AreCached s.cat.now c.shrink.new.statements.items ys) (sym caches)
          (subst (λ (xs : List Statement). AreCached s.cat.now xs s.caches.items) same c.self.invariant.1),
      subst (λ (xs : List Statement). IsProposed s.cat.now xs c.shorten-in-Err-widen.new.self) same proposed,
    )
