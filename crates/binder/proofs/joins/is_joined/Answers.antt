use Rattle.std.proofs.Common.{◌<◌, ℕ, List, length, get_or, eqb, ap, ◌∙◌, arith}
use Rattle.std.specs.List.{list_all}
use Rattle.std.proofs.lemmas.List.{get_or_read}
use Rattle.binder.specs.inner.Labels.{labels_of, have_one_label}
use Rattle.binder.specs.Plain.{plain_edges}
use Rattle.binder.proofs.Joined.{labels-joined}
use Rattle.binder.proofs.joins.is_joined.Goals as goal

pub returns : goal.returns
unfolding have_one_label
returns c =
    let labels = c.in_ok-labels.labels.items in
    let all = labels_of c.args.slots (plain_edges c.args.edges.now) in
    let some : 0 < length labels = let len = c.in_ok-labels.ensures.len in let least = c.requires.some in omega arith in
    let first = get_or_read labels 0 c.index-first.result.now some c.index-first.ensures 0 ∙ ap (λ (xs : List ℕ). get_or xs 0 0) c.in_ok-labels.ensures.exact in
    c.all_same.ensures ∙ ap (list_all (λ label. eqb label c.index-first.result.now)) (c.deref.ensures.value ∙ c.in_ok-labels.ensures.exact) ∙ ap (λ (x : ℕ). list_all (λ label. eqb label x) all) first
    ∙ labels-joined c.args.slots c.args.edges.now c.requires.some c.requires.lefts c.requires.rights
