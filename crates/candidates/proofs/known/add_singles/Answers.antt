use Rattle.std.proofs.Common.{◌≡◌, ℕ, ◌+◌, [], ◌∷◌, List, drop, get_or, ap, sym, ◌∙◌, arith}
use Rattle.candidates.specs.inner.Known.{as_proposals, with_all, with_forms}
use Rattle.candidates.specs.Proposals.{KeyList, Proposal, forms, single_lists}
use Rattle.candidates.proofs.KnownLemmas.{with_forms-number_here}
use Rattle.candidates.proofs.known.add_singles.Goals as goal

pub columns-preserved : goal.columns-preserved
columns-preserved c =
    let at = c.columns.column-index in
    let target = c.args.target in
    let list : ℕ → KeyList = λ k. (target.table, k ∷ []) in
    let step = with_forms-number_here target.clusterable list (as_proposals c.columns.known.keys) c.args.columns.now at (omega arith) in
    let added : as_proposals c.add_single.new.known.keys ≡ with_all (as_proposals c.columns.known.keys) (forms target.clusterable (list (get_or c.args.columns.now at 0))) = cc (c.in_ok-add_single.ensures) in
    ap (λ (known : List Proposal). with_forms target.clusterable known (single_lists target.table (drop (at + 1) c.args.columns.now))) added ∙ sym step ∙ c.columns.invariant
