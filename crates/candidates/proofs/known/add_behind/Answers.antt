use Rattle.std.proofs.Common.{◌≡◌, ℕ, ◌+◌, List, drop, get_or, ap, sym, ◌∙◌, arith}
use Rattle.candidates.specs.Columns.{with_column}
use Rattle.candidates.specs.inner.Known.{as_proposals, with_all, with_forms}
use Rattle.candidates.specs.Proposals.{KeyList, Proposal, forms, lists_behind}
use Rattle.candidates.proofs.KnownLemmas.{with_forms-number_here}
use Rattle.candidates.proofs.known.add_behind.Goals as goal

pub columns-preserved : goal.columns-preserved
columns-preserved c =
    let at = c.columns.column-index in
    let target = c.args.target in
    let list : ℕ → KeyList = λ k. (target.table, with_column c.args.keys.now k) in
    let step = with_forms-number_here target.clusterable list (as_proposals c.columns.known.keys) c.args.columns.now at (omega arith) in
    let added : as_proposals c.add_one_behind.new.known.keys ≡ with_all (as_proposals c.columns.known.keys) (forms target.clusterable (list (get_or c.args.columns.now at 0))) = cc (c.in_ok-add_one_behind.ensures) in
    ap (λ (known : List Proposal). with_forms target.clusterable known (lists_behind target.table c.args.keys.now (drop (at + 1) c.args.columns.now))) added ∙ sym step ∙ c.columns.invariant
