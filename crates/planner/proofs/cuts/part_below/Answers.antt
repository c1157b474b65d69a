use Rattle.std.proofs.Common.{◌≡◌, ℕ, ◌-◌, ◌<◌, bit_and, sym, subst}
use Rattle.planner.proofs.Parts.{below_apart, none_between}
use Rattle.planner.proofs.cuts.part_below.Goals as goal

pub returns-clause-apart : goal.returns-clause-apart
returns-clause-apart c =
    subst (λ n. bit_and (bit_and n c.args.set) (c.args.set - bit_and n c.args.set) ≡ 0) (sym c.saturating_sub.ensures) (below_apart c.args.set c.args.part)

pub returns-clause-none_between : goal.returns-clause-none_between
returns-clause-none_between c =
    subst (λ n. (x : ℕ) → bit_and n c.args.set < x → x < c.args.part → ¬ (bit_and x (c.args.set - x) ≡ 0)) (sym c.saturating_sub.ensures) (none_between c.args.set c.args.part c.requires.within c.requires.apart)
