use Rattle.std.proofs.Common.{◌≡◌, ◌∙◌, ℕ, get_or, ap, arith}
use Rattle.std.specs.Prelude.{slice_index_or}
use Rattle.bip_model.specs.declared.grant.Grant.{Grant}
use Rattle.retune.specs.inner.Renewing.{IsGrantBehind}
use Rattle.retune.proofs.Partly.{partly-more, partly-read, partly-written}
use Rattle.retune.proofs.narrowing.renumber_grants.Goals as goal

pub loop-grant-preserved : goal.loop-grant-preserved
loop-grant-preserved c =
    let number : ℕ → ℕ = λ n. slice_index_or c.args.numbers.now.of n 0 in
    let olds = c.deref_mut-grant-items.result.now in
    let news = c.loop-grant.grant-items in
    let at = c.loop-grant.grant-index in
    let d : Grant = c.grant-item.result in
    let read : get_or news at d ≡ get_or olds at d = partly-read (IsGrantBehind number) at olds news d c.loop-grant.invariant in
    partly-more (IsGrantBehind number) at olds news _ d (omega arith)
    (record { candidate_is = c.number-grant.ensures.exact ∙ ap (λ (g : Grant). number g.candidate) read; prices_are = ap (λ (g : Grant). g.prices) read })
    c.loop-grant.invariant

pub returns : goal.returns
returns c =
    partly-written (IsGrantBehind (λ n. slice_index_or c.args.numbers.now.of n 0)) c.loop-grant.grant-index c.grants.inside.items.len c.args.grants.now c.grants.inside.items.items
    c.deref_mut-grant-items.result.now c.loop-grant.grant-items c.grants.view_is c.deref_mut-grant-items.ensures.value c.grants.inside.items.ok.0 c.loop-grant-test.false c.loop-grant.invariant
