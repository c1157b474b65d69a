use Rattle.std.proofs.Common.{arith, rules, ◌∙◌, ◌<◌, ◌≤◌, ◌+◌, ◌-◌, take, length}
use Rattle.std.proofs.lemmas.Grind.{common_steps}
use Rattle.adv_shelf.proofs.Feeding.{feeds_on}
use Rattle.adv_shelf.proofs.Fronts.{front_is_long}
use Rattle.adv_shelf.proofs.feed.feed_all.Goals as goal

pub returns-then-count-most-clause-too_long : goal.returns-then-count-most-clause-too_long
returns-then-count-most-clause-too_long g c =
    let fits : c.in_ok-count.count ≤ length c.read_at.new.buf = grind (arith, common_steps) in
    let room : 0 < length (take (c.min.result + 1) c.feeding.buf) = grind (arith, common_steps) in
    let fed = feeds_on _ _ _ _ _ _ _ _ g.T.Taker.stands_for _ _ _ c.feeding.invariant.fed.1 c.feeding.invariant.files (c.in_ok-count.ensures.read room) fits c.in_ok-take.ensures.ok in
    λ _. front_is_long _ _ _ _ fed.1.front (omega (arith, fed.1.count))

pub returns-then-count-most-clause-too_much : goal.returns-then-count-most-clause-too_much
returns-then-count-most-clause-too_much g c =
    let fits : c.in_ok-count.count ≤ length c.read_at.new.buf = grind (arith, common_steps) in
    let few : length c.read_at.new.buf ≤ c.args.most - c.feeding.done + 1 = grind (arith, common_steps) in
    let room : 0 < length (take (c.min.result + 1) c.feeding.buf) = grind (arith, common_steps) in
    let fed = feeds_on _ _ _ _ _ _ _ _ g.T.Taker.stands_for _ _ _ c.feeding.invariant.fed.1 c.feeding.invariant.files (c.in_ok-count.ensures.read room) fits c.in_ok-take.ensures.ok in
    λ _. (fed.0, fed.1.front, omega (arith, fed.1.count), fed.1.grown)

pub feeding-preserved : goal.feeding-preserved
feeding-preserved g c =
    let fits : c.in_ok-count.count ≤ length c.read_at.new.buf = grind (arith, common_steps) in
    let room : 0 < length (take (c.min.result + 1) c.feeding.buf) = grind (arith, common_steps) in
    record {
      fed = feeds_on _ _ _ _ _ _ _ _ g.T.Taker.stands_for _ _ _ c.feeding.invariant.fed.1 c.feeding.invariant.files (c.in_ok-count.ensures.read room) fits c.in_ok-take.ensures.ok;
      most = omega arith;
      kept = λ gone. absurd (let bad = c.in_ok-take.ensures.err.1 gone in search rules);
      files = c.in_ok-count.ensures.files ∙ c.feeding.invariant.files;
      counts = omega (arith, c.in_ok-count.ensures.counts);
      counts_at = λ n. omega (arith, c.in_ok-count.ensures.counts_at n, c.feeding.invariant.counts_at n);
      puts = c.in_ok-count.ensures.puts ∙ c.feeding.invariant.puts;
    }
