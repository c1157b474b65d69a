use Rattle.std.proofs.Common.{◌≡◌, ◌++◌, ◌∷◌, [], List, ℕ, take, drop, length, refl, sym, ap, subst, ◌∙◌, arith}
use Rattle.std.proofs.lemmas.List.{length-map, length-take-le, take-append-drop, take_at, drop_at}
use Rattle.candidates.specs.Candidates.{is_same, fresh_proposals}
use Rattle.candidates.specs.Growing.{IsProposed}
use Rattle.candidates.specs.Proposals.{Proposal, work_proposals}
use Rattle.candidates.specs.declared.known.Proposal.{Proposal as OwnedProposal}
use Rattle.candidates.specs.inner.Known.{as_proposal, as_proposals, with_all}
use Rattle.candidates.proofs.Growing.{all-longer, appended, one-more}
use Rattle.candidates.proofs.proposed.Proposed.add.Goals as goal

pub invariant_of-self-2 : goal.invariant_of-self-2
invariant_of-self-2 c =
    let ks = c.self.inside.known.keys in
    let longer = all-longer (λ x y. is_same (as_proposal x) (as_proposal y)) ks c.add_work.new.known.keys in
    let long = ap length c.in_ok-append.ensures.keys in
    omega (arith, c.self.invariant, longer, long)

pub returns-clause-added : goal.returns-clause-added
returns-clause-added c = λ statements before.
    let cat = c.args.cat.now in
    let statement = c.args.statement.now in
    let n : ℕ = c.self.inside.existing in
    let ks : List OwnedProposal = c.self.inside.known.keys in
    let ps : List Proposal = work_proposals cat statement.work in
    let base : List Proposal = take n (as_proposals ks) in
    let fresh : List Proposal = drop n (as_proposals ks) in
    let next : List Proposal = fresh_proposals cat (statements ++ statement ∷ []) in
    let is = subst (IsProposed cat statements) (sym c.self.view_is) before in
    let empty : as_proposals c.new-own.result.keys ≡ [] = ap as_proposals c.new-own.ensures.empty in
    let own : as_proposals c.add_work.new.known.keys ≡ with_all [] ps = c.in_ok-add_work.ensures ∙ ap (λ (known : List Proposal). with_all known ps) empty in
    let all : as_proposals c.append.new.self.keys ≡ base ++ next =
    ap as_proposals c.in_ok-append.ensures.keys
    ∙ appended (λ x y. is_same (as_proposal x) (as_proposal y)) (λ x y. refl) ks c.add_work.new.known.keys ps own
    ∙ ap (λ (known : List Proposal). with_all known ps) (sym (take-append-drop n (as_proposals ks)))
    ∙ one-more cat statements statement base fresh is.existing_are is.fresh_are in
    let count = length-map ks as_proposal in
    let long : length base ≡ n = length-take-le n (as_proposals ks) (omega (arith, c.self.invariant, count)) in
    record {
      existing_are = ap (take n) all ∙ take_at base next n long ∙ is.existing_are;
      fresh_are = ap (drop n) all ∙ drop_at base next n long;
    }
