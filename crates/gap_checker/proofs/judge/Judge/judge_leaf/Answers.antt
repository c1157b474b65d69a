use Rattle.std.proofs.Common.{◌≡◌, ◌∙◌, ◌<◌, length, refl, sym, ap, subst, arith, rules}
use Rattle.std.specs.Prelude.{slice_get}
use Rattle.std.proofs.lemmas.Int.{to_z-of_z}
use mir.Syntax.{w128}
use Rattle.bip_model.proofs.Pricing.{get-some}
use Rattle.gap_checker.specs.inner.Judges.{setting_of}
use Rattle.gap_checker.specs.inner.Sums.{the_multipliers}
use Rattle.gap_checker.specs.inner.Parts.{AreDesks}
use Rattle.gap_checker.proofs.EachDesk.{desks-count}
use Rattle.gap_checker.proofs.Keeping.{written}
use Rattle.gap_checker.proofs.Remembering.{lasts-count, last-at, last-set}
use Rattle.gap_checker.proofs.Judging.{leaf-set, sets-count, below-true, below-false}
use Rattle.gap_checker.proofs.judge.Judge.judge_leaf.Goals as goal

pub kept_set_at-multipliers-requires : goal.kept_set_at-multipliers-requires
kept_set_at-multipliers-requires c =
    omega (arith, sets-count (setting_of c.args.self.now) c.args.self.now.claims.sets.now c.args.self.now.sets.items c.requires.judge.sets_are, ap length c.as_slice.ensures.value, c.requires.set_in)

pub lagrangian_value-requires-clause-earned : goal.lagrangian_value-requires-clause-earned
lagrangian_value-requires-clause-earned c =
    (leaf-set (setting_of c.args.self.now) c.args.self.now.claims.sets.now c.args.self.now.sets.items c.args.set c.kept_set_at-multipliers.result.now c.requires.judge.sets_are
    (ap (λ (sets : _). slice_get sets c.args.set) (sym c.as_slice.ensures.value) ∙ c.kept_set_at-multipliers.ensures)).earned

pub lagrangian_value-requires-clause-price : goal.lagrangian_value-requires-clause-price
lagrangian_value-requires-clause-price c =
    (leaf-set (setting_of c.args.self.now) c.args.self.now.claims.sets.now c.args.self.now.sets.items c.args.set c.kept_set_at-multipliers.result.now c.requires.judge.sets_are
    (ap (λ (sets : _). slice_get sets c.args.set) (sym c.as_slice.ensures.value) ∙ c.kept_set_at-multipliers.ensures)).mu_most

pub lagrangian_value-requires-clause-rise : goal.lagrangian_value-requires-clause-rise
lagrangian_value-requires-clause-rise c =
    (leaf-set (setting_of c.args.self.now) c.args.self.now.claims.sets.now c.args.self.now.sets.items c.args.set c.kept_set_at-multipliers.result.now c.requires.judge.sets_are
    (ap (λ (sets : _). slice_get sets c.args.set) (sym c.as_slice.ensures.value) ∙ c.kept_set_at-multipliers.ensures)).rise

pub index_mut-last-requires : goal.index_mut-last-requires
index_mut-last-requires c =
    let lasts = c.args.memo.now.lasts in
    omega (arith, lasts.ok.0, lasts-count (setting_of c.args.self.now) c.args.self.now.claims.sets.now lasts.items c.requires.memo_is.lasts_are, c.requires.set_in)

pub returns-clause-memo : goal.returns-clause-memo
returns-clause-memo c =
    let setting = setting_of c.args.self.now in
    let memo = c.args.memo.now in
    let old = memo.desks.items in
    let desks = c.lagrangian_value.new.desks in
    let long : length desks ≡ length old = desks-count setting desks c.in_ok-value.ensures.desks ∙ sym (desks-count setting old c.requires.memo_is.desks_are) in
    record {
      desks_are = subst (AreDesks setting) (sym (written old desks memo.desks.len memo.desks.ok.0 long)) c.in_ok-value.ensures.desks;
      lasts_are =
          last-set setting c.args.self.now.claims.sets.now c.args.self.now.sets.items memo.lasts.items c.args.set c.kept_set_at-multipliers.result.now c.lagrangian_value.new.last c.requires.judge.sets_are c.requires.memo_is.lasts_are
          (ap (λ (sets : _). slice_get sets c.args.set) (sym c.as_slice.ensures.value) ∙ c.kept_set_at-multipliers.ensures) c.in_ok-value.ensures.last;
    }

pub lagrangian_value-requires-clause-last_is : goal.lagrangian_value-requires-clause-last_is
lagrangian_value-requires-clause-last_is c =
    let setting = setting_of c.args.self.now in
    let lasts = c.args.memo.now.lasts.items in
    let within : c.args.set < length lasts = omega (arith, lasts-count setting c.args.self.now.claims.sets.now lasts c.requires.memo_is.lasts_are, c.requires.set_in) in
    let last = c.index_mut-last.result.now in
    last-at setting c.args.self.now.claims.sets.now c.args.self.now.sets.items lasts c.args.set c.kept_set_at-multipliers.result.now last c.requires.judge.sets_are c.requires.memo_is.lasts_are
    (ap (λ (sets : _). slice_get sets c.args.set) (sym c.as_slice.ensures.value) ∙ c.kept_set_at-multipliers.ensures) (get-some lasts c.args.set last within c.index_mut-last.ensures.value)

pub returns-then-value-self-clause-wrong : goal.returns-then-value-self-clause-wrong
returns-then-value-self-clause-wrong c =
    let leaf = leaf-set (setting_of c.args.self.now) c.args.self.now.claims.sets.now c.args.self.now.sets.items c.args.set c.kept_set_at-multipliers.result.now c.requires.judge.sets_are
    (ap (λ (sets : _). slice_get sets c.args.set) (sym c.as_slice.ensures.value) ∙ c.kept_set_at-multipliers.ensures) in
    let value = to_z-of_z w128 c.in_ok-value.value (search rules) in
    let bound = to_z-of_z w128 c.args.self.now.claims.bound (search rules) in
    rw (value, bound) (
      refl,
      record {
        set = c.args.set;
        node_is = refl;
        multipliers = the_multipliers c.kept_set_at-multipliers.result.now.rents;
        found = leaf.found;
        value_is = c.in_ok-value.ensures.value;
        claimed_is = refl;
        below = below-true c.in_ok-value.value c.args.self.now.claims.bound (rw (value, bound) at c.if-value-self.true);
      },
    )

pub returns-clause-right : goal.returns-clause-right
returns-clause-right c =
    let leaf = leaf-set (setting_of c.args.self.now) c.args.self.now.claims.sets.now c.args.self.now.sets.items c.args.set c.kept_set_at-multipliers.result.now c.requires.judge.sets_are
    (ap (λ (sets : _). slice_get sets c.args.set) (sym c.as_slice.ensures.value) ∙ c.kept_set_at-multipliers.ensures) in
    record {
      multipliers = the_multipliers c.kept_set_at-multipliers.result.now.rents;
      found = leaf.found;
      value = c.in_ok-value.value;
      value_is = c.in_ok-value.ensures.value;
      at_least = below-false c.in_ok-value.value c.args.self.now.claims.bound (rw (to_z-of_z w128 c.in_ok-value.value (search rules), to_z-of_z w128 c.args.self.now.claims.bound (search rules)) at c.if-value-self.false);
    }
