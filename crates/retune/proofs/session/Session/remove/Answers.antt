use Rattle.std.proofs.Common.{◌≡◌, ◌∙◌, ℕ, ◌+◌, ◌-◌, ◌<◌, List, [], length, get_or, take, length-take, sym, ap, subst, arith}
use Rattle.std.specs.Prelude.{Option}
use Rattle.std.specs.List.{remove}
use Rattle.adv_base.specs.declared.workload.Statement.{Statement}
use Rattle.adv_base.specs.Limits.Settings.{SettingLimits}
use Rattle.bip_model.specs.declared.programme.Programme.{Programme}
use Rattle.bip_model.proofs.Lists.{each-length}
use Rattle.candidates.specs.Growing.{IsProposed}
use Rattle.inum_cache.specs.declared.cache.Cache.{Cache}
use Rattle.retune.specs.Sessions.{TheSession, IsTuned, the_session}
use Rattle.programme_parts.specs.Caches.{IsCacheFor, AreCached}
use Rattle.retune.proofs.Moving.{at_end-length, front-left, last-gone, put-back}
use Rattle.retune.proofs.Returned.{with-last}
use Rattle.retune.proofs.Steps.{limits-less, cached-less}
use Rattle.retune.proofs.session.Session.remove.Goals as goal

pub to_end-requires-2 : goal.to_end-requires-2
to_end-requires-2 c =
    let s = c.self.inside in
    omega (arith, c.in_ok-at.ensures.within, c.len.ensures, s.statements.ok.0, each-length (IsCacheFor s.cat.now) s.statements.items s.caches.items c.self.invariant.1)

pub slice_bounds-narrow-end-2 : goal.slice_bounds-narrow-end-2
slice_bounds-narrow-end-2 c =
    let s = c.self.inside in
    let at = c.in_ok-at.at in
    let within : at < length s.statements.items = omega (arith, c.in_ok-at.ensures.within, c.len.ensures, s.statements.ok.0) in
    let long = each-length (IsCacheFor s.cat.now) s.statements.items s.caches.items c.self.invariant.1 in
    let first : length c.to_end.new.items.items ≡ length s.statements.items = ap length c.to_end.ensures ∙ at_end-length s.statements.items at within in
    let second : length c.as_slice-2.result.now ≡ length s.caches.items =
    ap length (c.as_slice-2.ensures.value ∙ c.to_end-2.ensures) ∙ at_end-length s.caches.items at (omega (arith, within, long)) in
    simp length-take (omega (arith, within, long, first, second, c.len-count.ensures, c.to_end.new.items.ok.0))

pub narrow-requires-clause-limits : goal.narrow-requires-clause-limits
narrow-requires-clause-limits c =
    let s = c.self.inside in
    let xs = s.statements.items in
    let at = c.in_ok-at.at in
    let within : at < length xs = omega (arith, c.in_ok-at.ensures.within, c.len.ensures, s.statements.ok.0) in
    let first : length c.to_end.new.items.items ≡ length xs = ap length c.to_end.ensures ∙ at_end-length xs at within in
    let counted : (c.len-count.result - 1) + 1 ≡ length xs = omega (arith, within, first, c.len-count.ensures, c.to_end.new.items.ok.0) in
    subst (λ (zs : List Statement). SettingLimits s.cat.now zs [])
    (sym (front-left xs c.as_slice.result.now at (c.len-count.result - 1) within (c.as_slice.ensures.value ∙ c.to_end.ensures) counted))
    (limits-less s.cat.now xs s.candidates.list at c.self.invariant.0.limits within)

pub narrow-requires-clause-cached : goal.narrow-requires-clause-cached
narrow-requires-clause-cached c =
    let s = c.self.inside in
    let xs = s.statements.items in
    let ys = s.caches.items in
    let at = c.in_ok-at.at in
    let within : at < length xs = omega (arith, c.in_ok-at.ensures.within, c.len.ensures, s.statements.ok.0) in
    let long = each-length (IsCacheFor s.cat.now) xs ys c.self.invariant.1 in
    let first : length c.to_end.new.items.items ≡ length xs = ap length c.to_end.ensures ∙ at_end-length xs at within in
    let count : ℕ = c.len-count.result - 1 in
    let counted : count + 1 ≡ length xs = omega (arith, within, first, c.len-count.ensures, c.to_end.new.items.ok.0) in
    let left = front-left xs c.as_slice.result.now at count within (c.as_slice.ensures.value ∙ c.to_end.ensures) counted in
    let kept = front-left ys c.as_slice-2.result.now at count (omega (arith, within, long)) (c.as_slice-2.ensures.value ∙ c.to_end-2.ensures) (omega (arith, counted, long)) in
    subst (λ (caches : List (Option Cache)). AreCached s.cat.now (take count c.as_slice.result.now) caches) (sym kept)
    (subst (λ (zs : List Statement). AreCached s.cat.now zs (remove ys at)) (sym left) (cached-less s.cat.now xs ys at c.self.invariant.1 within))

pub narrow-requires-clause-before : goal.narrow-requires-clause-before
narrow-requires-clause-before c =
    let s = c.self.inside in
    let xs = s.statements.items in
    let at = c.in_ok-at.at in
    let within : at < length xs = omega (arith, c.in_ok-at.ensures.within, c.len.ensures, s.statements.ok.0) in
    let first : length c.to_end.new.items.items ≡ length xs = ap length c.to_end.ensures ∙ at_end-length xs at within in
    let count : ℕ = c.len-count.result - 1 in
    let counted : count + 1 ≡ length xs = omega (arith, within, first, c.len-count.ensures, c.to_end.new.items.ok.0) in
    let statement : Statement = c.index-statement.result.now in
    let moved : c.as_slice.result.now ≡ c.to_end.new.items.items = c.as_slice.ensures.value in
    let is : statement ≡ get_or c.as_slice.result.now count statement = c.index-statement.ensures ∙ ap (λ (zs : List Statement). get_or zs count statement) (sym moved) in
    let back = with-last xs c.as_slice.result.now at count statement within (moved ∙ c.to_end.ensures) counted is in
    subst (λ (zs : List Statement). IsTuned (the_session s.cat.now zs s.candidates s.programme)) (sym back) c.self.invariant.0

pub invariant_of-self : goal.invariant_of-self
invariant_of-self c =
    let s = c.self.inside in
    let xs = s.statements.items in
    let ys = s.caches.items in
    let at = c.in_ok-at.at in
    let within : at < length xs = omega (arith, c.in_ok-at.ensures.within, c.len.ensures, s.statements.ok.0) in
    let long = each-length (IsCacheFor s.cat.now) xs ys c.self.invariant.1 in
    let first : length c.to_end.new.items.items ≡ length xs = ap length c.to_end.ensures ∙ at_end-length xs at within in
    let count : ℕ = c.len-count.result - 1 in
    let counted : count + 1 ≡ length xs = omega (arith, within, first, c.len-count.ensures, c.to_end.new.items.ok.0) in
    let left = front-left xs c.as_slice.result.now at count within (c.as_slice.ensures.value ∙ c.to_end.ensures) counted in
    let shrunk = last-gone xs c.to_end.new.items.items c.shrink.new.statements.items at within c.to_end.ensures c.shrink.ensures.statements in
    let kept = last-gone ys c.to_end-2.new.items.items c.shrink.new.caches.items at (omega (arith, within, long)) c.to_end-2.ensures c.shrink.ensures.caches in (
      subst (λ (zs : List Statement). IsTuned (the_session s.cat.now zs c.in-Ok.candidates c.narrow.new.programme)) (left ∙ sym shrunk) c.in-Ok.ensures.after,
      subst (λ (caches : List (Option Cache)). AreCached s.cat.now c.shrink.new.statements.items caches) (sym kept)
          (subst (λ (zs : List Statement). AreCached s.cat.now zs (remove ys at)) (sym shrunk) (cached-less s.cat.now xs ys at c.self.invariant.1 within)),
      subst (λ (zs : List Statement). IsProposed s.cat.now zs c.in-Ok.proposed) (left ∙ sym shrunk) c.in-Ok.ensures.proposed,
    )

pub from_end-requires-in-Err : goal.from_end-requires-in-Err
from_end-requires-in-Err c =
    let s = c.self.inside in
    let at = c.in_ok-at.at in
    let within : at < length s.statements.items = omega (arith, c.in_ok-at.ensures.within, c.len.ensures, s.statements.ok.0) in
    let long = each-length (IsCacheFor s.cat.now) s.statements.items s.caches.items c.self.invariant.1 in
    let kept : at < length s.caches.items = omega (arith, within, long) in
    omega (arith, kept, ap length c.to_end-2.ensures, at_end-length s.caches.items at kept)

pub invariant_of-self-in-Err : goal.invariant_of-self-in-Err
invariant_of-self-in-Err c =
    let s = c.self.inside in
    let xs = s.statements.items in
    let ys = s.caches.items in
    let at = c.in_ok-at.at in
    let within : at < length xs = omega (arith, c.in_ok-at.ensures.within, c.len.ensures, s.statements.ok.0) in
    let long = each-length (IsCacheFor s.cat.now) xs ys c.self.invariant.1 in
    let same = put-back xs c.to_end.new.items.items c.from_end.new.items.items at within c.to_end.ensures c.from_end.ensures in
    let kept = put-back ys c.to_end-2.new.items.items c.from_end-in-Err.new.items.items at (omega (arith, within, long)) c.to_end-2.ensures c.from_end-in-Err.ensures in (
      subst (λ (programme : Programme). IsTuned (the_session s.cat.now c.from_end.new.items.items s.candidates programme)) (sym c.in-Err.ensures.same)
          (subst (λ (zs : List Statement). IsTuned (the_session s.cat.now zs s.candidates s.programme)) (sym same) c.self.invariant.0),
      subst (λ (caches : List (Option Cache)). AreCached s.cat.now c.from_end.new.items.items caches) (sym kept)
          (subst (λ (zs : List Statement). AreCached s.cat.now zs ys) (sym same) c.self.invariant.1),
      subst (λ (zs : List Statement). IsProposed s.cat.now zs s.proposed) (sym same) c.self.invariant.2,
    )

pub returns-in-Ok-clause-statements : goal.returns-in-Ok-clause-statements
returns-in-Ok-clause-statements c =
    let s = c.self.inside in
    let xs = s.statements.items in
    let at = c.in_ok-at.at in
    let within : at < length xs = omega (arith, c.in_ok-at.ensures.within, c.len.ensures, s.statements.ok.0) in
    let place : at ≡ c.args.number - 1 = omega (arith, c.in_ok-at.ensures.place) in
    last-gone xs c.to_end.new.items.items c.shrink.new.statements.items at within c.to_end.ensures c.shrink.ensures.statements
    ∙ ap (remove xs) place ∙ ap (λ (session : TheSession). remove session.statements (c.args.number - 1)) c.self.view_is

pub returns-in-Err-clause-same : goal.returns-in-Err-clause-same
returns-in-Err-clause-same c =
    let s = c.self.inside in
    let xs = s.statements.items in
    let at = c.in_ok-at.at in
    let within : at < length xs = omega (arith, c.in_ok-at.ensures.within, c.len.ensures, s.statements.ok.0) in
    let same = put-back xs c.to_end.new.items.items c.from_end.new.items.items at within c.to_end.ensures c.from_end.ensures in
    ap (λ (programme : Programme). the_session s.cat.now c.from_end.new.items.items s.candidates programme) c.in-Err.ensures.same
    ∙ ap (λ (zs : List Statement). the_session s.cat.now zs s.candidates s.programme) same ∙ c.self.view_is
