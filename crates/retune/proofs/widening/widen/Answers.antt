use Rattle.std.proofs.Common.{◌≡◌, ◌∙◌, ℕ, ◌-◌, ◌≤◌, List, [], ◌++◌, length, map, take, drop, min, sym, ap, subst, arith}
use Rattle.std.specs.Prelude.{All}
use Rattle.adv_base.specs.declared.catalogue.index.IndexShape.{IndexShape}
use Rattle.adv_base.specs.declared.limits.TheConstants.{MOST_CANDIDATES}
use Rattle.adv_base.specs.Limits.Numbers.{KeyLimits}
use Rattle.adv_base.specs.Limits.Settings.{SettingLimits}
use Rattle.bip_model.specs.StandsFor.{StandsFor}
use Rattle.candidates.specs.declared.answer.Candidates.{Candidates}
use Rattle.candidates.specs.Candidates.{AreCandidates, proposal_of, fresh_proposals}
use Rattle.candidates.specs.Proposals.{Proposal}
use Rattle.candidates.proofs.SoundLaws.{fresh-limits}
use Rattle.retune.proofs.Widened.{candidates-limits, candidates-widened, front-few}
use Rattle.retune.proofs.widening.widen.Goals as goal

pub shapes-requires-clause-order : goal.shapes-requires-clause-order
shapes-requires-clause-order c =
    let found = c.args.found.now in
    let few = front-few c.args.cat.now c.args.statements.now found.list found.left_over c.requires.some c.requires.before.candidates in
    let n : c.len-before.result ≡ length found.list = c.len-before.ensures ∙ ap (λ (f : Candidates). length f.list) c.found.view_is in
    omega (arith, few, n, c.len-count.ensures, c.min-kept.ensures, ap length c.requires.proposed.fresh_are)

pub shapes-requires-clause-limits : goal.shapes-requires-clause-limits
shapes-requires-clause-limits c =
    subst (All (λ (p : Proposal). KeyLimits p.keys)) (sym c.requires.proposed.fresh_are) (fresh-limits c.args.cat.now c.args.statements.now c.requires.limits.statements_named)

pub invariant_of-setting : goal.invariant_of-setting
invariant_of-setting c =
    let cat = c.args.cat.now in
    let statements = c.args.statements.now in
    let found = c.args.found.now in
    let fresh = c.in_ok-fresh.fresh in
    let all : List Proposal = fresh_proposals cat statements in
    let kept : ℕ = min (length all) MOST_CANDIDATES in
    let count : c.len-count.result ≡ length all = c.len-count.ensures ∙ ap length c.requires.proposed.fresh_are in
    let kept_is : c.min-kept.result ≡ kept = omega (arith, c.min-kept.ensures, count) in
    let n : c.len-before.result ≡ length found.list = c.len-before.ensures ∙ ap (λ (f : Candidates). length f.list) c.found.view_is in
    let listed : map proposal_of fresh ≡ take (kept - length found.list) (drop (length found.list) all) =
    c.in_ok-fresh.ensures.same ∙ ap (λ (k : ℕ). take (k - c.len-before.result) (drop c.len-before.result c.args.proposed.now.fresh)) kept_is
    ∙ ap (λ (k : ℕ). take (kept - k) (drop k c.args.proposed.now.fresh)) n ∙ ap (λ (ps : List Proposal). take (kept - length found.list) (drop (length found.list) ps)) c.requires.proposed.fresh_are in
    let are : AreCandidates cat statements (found.list ++ fresh) (length all - kept) =
    candidates-widened cat statements found.list fresh found.left_over (length all - kept) c.requires.some c.requires.before.candidates listed c.in_ok-fresh.ensures.not_unique (omega arith) in
    let shapes : c.as_slice.result.now ≡ found.list ++ fresh = c.as_slice.ensures ∙ c.in_ok-push_shapes.ensures.pushed ∙ ap (λ (f : Candidates). f.list ++ fresh) c.found.view_is in
    record { limits = subst (SettingLimits cat statements) (sym shapes) (candidates-limits cat statements [] (found.list ++ fresh) (length all - kept) c.requires.limits are) }

pub returns-in-Ok-clause-after : goal.returns-in-Ok-clause-after
returns-in-Ok-clause-after c =
    let cat = c.args.cat.now in
    let statements = c.args.statements.now in
    let found = c.args.found.now in
    let fresh = c.in_ok-fresh.fresh in
    let all : List Proposal = fresh_proposals cat statements in
    let kept : ℕ = min (length all) MOST_CANDIDATES in
    let count : c.len-count.result ≡ length all = c.len-count.ensures ∙ ap length c.requires.proposed.fresh_are in
    let kept_is : c.min-kept.result ≡ kept = omega (arith, c.min-kept.ensures, count) in
    let n : c.len-before.result ≡ length found.list = c.len-before.ensures ∙ ap (λ (f : Candidates). length f.list) c.found.view_is in
    let left : ℕ = c.len-count.result - c.min-kept.result in
    let rest : left ≡ length all - kept = omega (arith, count, kept_is) in
    let listed : map proposal_of fresh ≡ take (kept - length found.list) (drop (length found.list) all) =
    c.in_ok-fresh.ensures.same ∙ ap (λ (k : ℕ). take (k - c.len-before.result) (drop c.len-before.result c.args.proposed.now.fresh)) kept_is
    ∙ ap (λ (k : ℕ). take (kept - k) (drop k c.args.proposed.now.fresh)) n ∙ ap (λ (ps : List Proposal). take (kept - length found.list) (drop (length found.list) ps)) c.requires.proposed.fresh_are in
    let are : AreCandidates cat statements (found.list ++ fresh) left =
    candidates-widened cat statements found.list fresh found.left_over left c.requires.some c.requires.before.candidates listed c.in_ok-fresh.ensures.not_unique rest in
    let pushed : c.push_shapes.new.shapes.items ≡ found.list ++ fresh = c.in_ok-push_shapes.ensures.pushed ∙ ap (λ (f : Candidates). f.list ++ fresh) c.found.view_is in
    let both : AreCandidates cat statements c.push_shapes.new.shapes.items left = subst (λ (shapes : List IndexShape). AreCandidates cat statements shapes left) (sym pushed) are in
    record {
      limits = candidates-limits cat statements [] c.push_shapes.new.shapes.items left c.requires.limits both;
      candidates = both;
      stands = subst (λ (shapes : List IndexShape). StandsFor (record { cat = cat; statements = statements; shapes = shapes }) c.widen_programme.new.programme) c.as_slice.ensures c.in-Ok.ensures.after.stands;
      kept = c.in-Ok.ensures.after.kept;
    }
