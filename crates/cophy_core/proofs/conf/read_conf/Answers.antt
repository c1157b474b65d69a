use Rattle.std.proofs.Common.{◌≡◌, ◌≢◌, ◌-◌, ◌<◌, ◌++◌, ◌∷◌, [], ℕ, Bool, List, length, set, true, sym, ap, subst, ◌∙◌, refl, inl, inr, length-set, length-append, arith}
use Rattle.std.proofs.lemmas.Bool.{cases_lt}
use Rattle.std.proofs.lemmas.Bool.Decides.{nat_tests}
use Rattle.cophy_core.specs.Confs.{NoLine, last_of}
use Rattle.cophy_core.proofs.Lines.{none_on, on_before, text-more, Rise-more, last_of-more, flags_with-more}
use Rattle.cophy_core.proofs.conf.read_conf.Goals as goal

pub lines-init : goal.lines-init
lines-init c = (
  [],
  record {
    text = refl;
    rise = tt;
    last_is = refl;
    line_is = refl;
    few = omega arith;
    within = omega arith;
    flags = refl;
    size = refl;
    below = λ a on. absurd (none_on 256 a on);
  },
)

pub returns-in-None-clause-fault : goal.returns-in-None-clause-fault
returns-in-None-clause-fault c =
    let inv = c.lines.invariant.1 in
    record {
      numbers = c.lines.invariant.0;
      rest = c.lines.rest.now;
      text = inv.text;
      rise = inv.rise;
      line_is = inv.line_is;
      some = λ e. let empty : length c.lines.rest.now ≡ 0 = ap length e in grind (arith, nat_tests);
      no_line = subst (λ (k : ℕ). NoLine c.args.count k c.lines.rest.now) inv.last_is c.in-None.ensures.line;
    }

pub lines-preserved : goal.lines-preserved
lines-preserved c =
    let ns = c.lines.invariant.0 in
    let inv = c.lines.invariant.1 in
    let n = c.in-Some.read.0 in
    let above : c.lines.last < n = c.in-Some.ensures.above in
    let higher : last_of 0 ns < n = subst (λ (k : ℕ). k < n) inv.last_is above in (
      ns ++ n ∷ [],
      record {
        text = text-more c.args.bytes.now c.lines.rest.now c.in-Some.read.1.now ns n inv.text c.in-Some.ensures.line;
        rise = Rise-more c.args.count 0 ns n inv.rise higher c.in-Some.ensures.within;
        last_is = sym (last_of-more 0 ns n);
        line_is = omega (arith, inv.line_is, length-append ns (n ∷ []));
        few = omega (arith, inv.few, above, length-append ns (n ∷ []));
        within = c.in-Some.ensures.within;
        flags = ap (λ (fs : List Bool). set fs (n - 1) true) inv.flags ∙ sym (flags_with-more _ ns n);
        size = length-set c.lines.on (n - 1) true ∙ inv.size;
        below = λ a on. elim (cases_lt a n) [
          | inl low ↦ low
          | inr high ↦
              let apart : a ≢ n - 1 = omega (arith, above, high) in
              let before : a < c.lines.last = inv.below a (on_before c.lines.on (n - 1) a apart on) in
              omega (arith, above, before)
        ];
      },
    )
