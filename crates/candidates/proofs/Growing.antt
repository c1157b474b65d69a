-- What is known behind one statement more.
use Rattle.std.proofs.Common.{◌≡◌, ◌≤◌, Bool, true, false, cond, arith, List, [], ◌∷◌, ◌++◌, length, refl, sym, ap, subst, ◌∙◌}
use Rattle.std.specs.Prelude.{fold, All}
use Rattle.std.specs.List.{list_any}
use Rattle.std.proofs.lemmas.Grind.{flat_map-append}
use Rattle.std.proofs.lemmas.List.{append-nil, append_assoc, length-append}
use Rattle.std.proofs.lemmas.List.Elements.{All-nil, All-head, All-tail}
use Rattle.std.proofs.lemmas.List.Sums.{fold-append}
use Rattle.indexmap.specs.IndexSet.{insert_key, insert_all}
use Rattle.adv_base.specs.declared.catalogue.Catalogue.{Catalogue}
use Rattle.adv_base.specs.declared.workload.Statement.{Statement}
use Rattle.candidates.specs.Candidates.{is_same, is_left_out, with_proposal, existing_indexes, fresh_proposals}
use Rattle.candidates.specs.declared.known.Proposal.{Proposal as OwnedProposal}
use Rattle.candidates.specs.inner.Known.{as_proposal, as_proposals, with_all}
use Rattle.candidates.specs.Proposals.{Proposal, proposals, work_proposals}
use Rattle.candidates.proofs.FreshLaws.{Fits, All-fresh, base-agrees, known-behind}
use Rattle.candidates.proofs.KnownLemmas.{as_proposals-insert_key, with_proposal-left, with_proposal-added}
use Rattle.candidates.proofs.Once.{each-once}

-- nothing that was known is lost
one-longer : (E : OwnedProposal → OwnedProposal → Bool) (ks : List OwnedProposal) (x : OwnedProposal) → length ks ≤ length (insert_key E ks x)
one-longer E ks x = by_case (list_any (E x) ks) refl
  where
    by_case : (b : Bool) → list_any (E x) ks ≡ b → length ks ≤ length (insert_key E ks x)
    by_case true e = subst (λ (t : Bool). length ks ≤ length (cond t ks (ks ++ x ∷ []))) (sym e) (omega arith)
    by_case false e = subst (λ (t : Bool). length ks ≤ length (cond t ks (ks ++ x ∷ []))) (sym e) (omega (arith, length-append ks (x ∷ [])))

pub all-longer : (E : OwnedProposal → OwnedProposal → Bool) (ks xs : List OwnedProposal) → length ks ≤ length (insert_all E ks xs)
all-longer E ks [] = omega arith
all-longer E ks (x ∷ xs) = let one = one-longer E ks x in let rest = all-longer E (insert_key E ks x) xs in omega (arith, one, rest)

-- inserting all is adding all, at proposals of 1 to 8 columns
inserted-all : (E : OwnedProposal → OwnedProposal → Bool) → ((x y : OwnedProposal) → E x y ≡ is_same (as_proposal x) (as_proposal y)) → (ks xs : List OwnedProposal)
    → All Fits (as_proposals xs) → as_proposals (insert_all E ks xs) ≡ with_all (as_proposals ks) (as_proposals xs)
inserted-all E same ks [] fits = refl
inserted-all E same ks (x ∷ xs) fits =
    let own = All-head Fits (as_proposal x) (as_proposals xs) fits in
    inserted-all E same (insert_key E ks x) xs (All-tail Fits (as_proposal x) (as_proposals xs) fits)
    ∙ ap (λ (known : List Proposal). with_all known (as_proposals xs)) (as_proposals-insert_key E same x ks own.some own.few)

-- what is known by itself fits
known-fits : (ps : List Proposal) → All Fits (with_all [] ps)
known-fits ps = All-fresh Fits [] [] ps (All-nil Fits) (λ i p within fits. fits)

-- what was gathered aside is known as if it had been added at once
pub appended : (E : OwnedProposal → OwnedProposal → Bool) → ((x y : OwnedProposal) → E x y ≡ is_same (as_proposal x) (as_proposal y)) → (ks own : List OwnedProposal) (ps : List Proposal)
    → as_proposals own ≡ with_all [] ps → as_proposals (insert_all E ks own) ≡ with_all (as_proposals ks) ps
appended E same ks own ps is =
    inserted-all E same ks own (subst (All Fits) (sym is) (known-fits ps))
    ∙ ap (with_all (as_proposals ks)) is
    ∙ sym (each-once (as_proposals ks) [] ps (All-nil Fits))

-- what one statement more proposes
proposals-more : (cat : Catalogue) (statements : List Statement) (statement : Statement) → proposals cat (statements ++ statement ∷ []) ≡ proposals cat statements ++ work_proposals cat statement.work
unfolding proposals
proposals-more cat statements statement =
    flat_map-append (λ (s : Statement). work_proposals cat s.work) statements (statement ∷ [])
    ∙ ap (λ (ps : List Proposal). proposals cat statements ++ ps) (append-nil (work_proposals cat statement.work))

-- behind the indexes that exist stand the fresh proposals of one statement more
pub one-more : (cat : Catalogue) (statements : List Statement) (statement : Statement) (base fresh : List Proposal) → base ≡ fold (with_proposal []) [] (existing_indexes cat)
    → fresh ≡ fresh_proposals cat statements → with_all (base ++ fresh) (work_proposals cat statement.work) ≡ base ++ fresh_proposals cat (statements ++ statement ∷ [])
unfolding fresh_proposals proposals
one-more cat statements statement base fresh first before =
    let step : List Proposal → Proposal → List Proposal = with_proposal (existing_indexes cat) in
    let own : List Proposal = work_proposals cat statement.work in
    let all = proposals-more cat statements statement in
    known-behind (existing_indexes cat) base fresh own (base-agrees cat base first)
    ∙ ap (λ (ps : List Proposal). base ++ ps)
    (ap (λ (ps : List Proposal). fold step ps own) before ∙ sym (fold-append step [] (proposals cat statements) own) ∙ sym (ap (fold step []) all))

-- ## What statements propose is the front of what these and one more propose

grows-by : (existing kept ps : List Proposal) (p : Proposal) → ((known : List Proposal) → (more : List Proposal) × (fold (with_proposal existing) known ps ≡ known ++ more)) → (b : Bool) → is_left_out existing kept p ≡ b
    → (more : List Proposal) × (fold (with_proposal existing) kept (p ∷ ps) ≡ kept ++ more)
grows-by existing kept ps p rest true e =
    let behind = rest kept in
    (behind.0, ap (λ (known : List Proposal). fold (with_proposal existing) known ps) (with_proposal-left existing kept p e) ∙ behind.1)
grows-by existing kept ps p rest false e =
    let behind = rest (kept ++ p ∷ []) in (
      p ∷ behind.0,
      ap (λ (known : List Proposal). fold (with_proposal existing) known ps) (with_proposal-added existing kept p e) ∙ behind.1 ∙ append_assoc kept (p ∷ []) behind.0,
    )

grows : (existing kept ps : List Proposal) → (more : List Proposal) × (fold (with_proposal existing) kept ps ≡ kept ++ more)
grows existing kept [] = ([], sym (append-nil kept))
grows existing kept (p ∷ ps) = grows-by existing kept ps p (λ known. grows existing known ps) (is_left_out existing kept p) refl

pub fresh-more : (cat : Catalogue) (statements : List Statement) (statement : Statement) → (more : List Proposal) × (fresh_proposals cat (statements ++ statement ∷ []) ≡ fresh_proposals cat statements ++ more)
unfolding fresh_proposals proposals
fresh-more cat statements statement =
    let step : List Proposal → Proposal → List Proposal = with_proposal (existing_indexes cat) in
    let own : List Proposal = work_proposals cat statement.work in
    let rest = grows (existing_indexes cat) (fold step [] (proposals cat statements)) own in
    (rest.0, ap (fold step []) (proposals-more cat statements statement) ∙ fold-append step [] (proposals cat statements) own ∙ rest.1)
