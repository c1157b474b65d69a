use Rattle.std.proofs.Common.{ℕ, ◌+◌, ◌<◌, ◌≤◌, Bool, cond, length, ap, arith, rules}
use Rattle.bip_model.specs.Candidates.{is_useful}
use Rattle.branch_bound.proofs.Finding.{flags-more, useful-none, useful-more}
use Rattle.branch_bound.proofs.useful.useful_of.Goals as goal

pub loop-index-init : goal.loop-index-init
loop-index-init c =
    record { flags = λ i within. absurd (omega (arith, within)); count = useful-none c.args.programme.now c.args.budget; most = omega arith; long = search rules }

pub loop-index-preserved : goal.loop-index-preserved
loop-index-preserved c =
    let few : length c.args.programme.now.sizes ≤ 256 = search rules in
    let room : c.loop-index.index < length c.loop-index.flags = omega (arith, few, c.loop-index-test.true, c.loop-index.invariant.long) in
    record {
      flags =
          flags-more (λ (i : ℕ). is_useful c.args.programme.now c.args.budget (i + 1)) c.loop-index.flags c.loop-index.index c.is_useful-flag.result room c.loop-index.invariant.flags c.is_useful-flag.ensures;
      count =
          omega (
            arith,
            useful-more c.args.programme.now c.args.budget c.loop-index.index,
            c.loop-index.invariant.count,
            c.one_if-count.ensures.exact,
            ap {B = ℕ} (λ (b : Bool). cond b 1 0) c.is_useful-flag.ensures,
          );
      most = omega (arith, c.loop-index.invariant.most, c.one_if-count.ensures.most);
      long = search (rules, c.loop-index.invariant.long);
    }
