-- A folded workload proposes the candidates of the whole.
use Rattle.std.proofs.Common.{◌≡◌, ◌↔◌, ℕ, ◌+◌, ◌-◌, ◌==◌, Bool, true, false, if◌then◌else◌, ◌||◌, List, [], ◌∷◌, ◌++◌, length, take, refl, sym, ap, ◌∙◌, subst, append-nil}
use Rattle.std.specs.Prelude.{nat_lt, nat_le, fold}
use Rattle.std.specs.List.{list_any, flat_map, enumerate_from}
use Rattle.std.proofs.lemmas.Bool.{and_parts}
use Rattle.std.proofs.lemmas.List.Folds.{list_any-append}
use Rattle.std.proofs.lemmas.List.Sums.{fold-append}
use Rattle.adv_base.specs.declared.catalogue.Catalogue.{Catalogue}
use Rattle.adv_base.specs.declared.catalogue.index.IndexShape.{IndexShape}
use Rattle.adv_base.specs.declared.limits.TheConstants.{MOST_KEYS, MOST_WEIGHT}
use Rattle.adv_base.specs.declared.workload.Statement.{Statement}
use Rattle.candidates.specs.Proposals.{Proposal, work_proposals, proposals}
use Rattle.candidates.specs.Candidates.{is_same, is_left_out, with_proposal, existing_indexes, fresh_proposals, AreCandidates}
use Rattle.candidates.proofs.FreshLaws.{same_refl}
use Rattle.candidates.proofs.KnownLemmas.{with_proposal-left, with_proposal-added}
use Rattle.workload_fold.specs.Alike.{is_alike}
use Rattle.workload_fold.specs.Groups.{Group, takes, heavier, joined, groups_of, StandFor, IsFolded}
use Rattle.workload_fold.proofs.Costing.{same_work_proposals}

or_more : (c x y e : Bool) → ((c || x) || e) ≡ true → ((c || (x || y)) || e) ≡ true
or_more true x y e h = refl
or_more false true y e h = refl
or_more false false true e h = refl
or_more false false false e h = h

or_last : (c x e : Bool) → ((c || (x || (true || false))) || e) ≡ true
or_last true x e = refl
or_last false true e = refl
or_last false false e = refl

-- ## What is known stays left out

stays : (existing known : List Proposal) (p q : Proposal) → is_left_out existing known p ≡ true → is_left_out existing (with_proposal existing known q) p ≡ true
stays existing known p q h = by_case (is_left_out existing known q) refl
  where
    by_case : (b : Bool) → is_left_out existing known q ≡ b → is_left_out existing (with_proposal existing known q) p ≡ true
    by_case true e = ap (λ (k : List Proposal). is_left_out existing k p) (with_proposal-left existing known q e) ∙ h
    by_case false e =
        ap (λ (k : List Proposal). is_left_out existing k p) (with_proposal-added existing known q e)
        ∙ ap (λ (t : Bool). ((length p.keys == 0 || nat_lt MOST_KEYS (length p.keys)) || t) || list_any (is_same p) existing) (list_any-append (is_same p) known (q ∷ []))
        ∙ or_more (length p.keys == 0 || nat_lt MOST_KEYS (length p.keys)) (list_any (is_same p) known) (list_any (is_same p) (q ∷ [])) (list_any (is_same p) existing) h

stays_all : (existing known : List Proposal) (p : Proposal) (qs : List Proposal) → is_left_out existing known p ≡ true → is_left_out existing (fold (with_proposal existing) known qs) p ≡ true
stays_all existing known p [] h = h
stays_all existing known p (q ∷ qs) h = stays_all existing (with_proposal existing known q) p qs (stays existing known p q h)

-- what was proposed is known, or left out anyhow
proposed_once : (existing known : List Proposal) (p : Proposal) → is_left_out existing (with_proposal existing known p) p ≡ true
proposed_once existing known p = by_case (is_left_out existing known p) refl
  where
    by_case : (b : Bool) → is_left_out existing known p ≡ b → is_left_out existing (with_proposal existing known p) p ≡ true
    by_case true e = ap (λ (k : List Proposal). is_left_out existing k p) (with_proposal-left existing known p e) ∙ e
    by_case false e =
        ap (λ (k : List Proposal). is_left_out existing k p) (with_proposal-added existing known p e)
        ∙ ap (λ (t : Bool). ((length p.keys == 0 || nat_lt MOST_KEYS (length p.keys)) || t) || list_any (is_same p) existing) (list_any-append (is_same p) known (p ∷ []))
        ∙ ap (λ (t : Bool). ((length p.keys == 0 || nat_lt MOST_KEYS (length p.keys)) || (list_any (is_same p) known || (t || false))) || list_any (is_same p) existing) (same_refl p)
        ∙ or_last (length p.keys == 0 || nat_lt MOST_KEYS (length p.keys)) (list_any (is_same p) known) (list_any (is_same p) existing)

abbrev AreLeftOut : List Proposal → List Proposal → List Proposal → Type 0
AreLeftOut existing known [] = Unit {0}
AreLeftOut existing known (p ∷ ps) = (is_left_out existing known p ≡ true) × AreLeftOut existing known ps

left_after : (existing known ps : List Proposal) → AreLeftOut existing (fold (with_proposal existing) known ps) ps
left_after existing known [] = tt
left_after existing known (p ∷ ps) =
    (stays_all existing (with_proposal existing known p) p ps (proposed_once existing known p), left_after existing (with_proposal existing known p) ps)

left_later : (existing known ps qs : List Proposal) → AreLeftOut existing known ps → AreLeftOut existing (fold (with_proposal existing) known qs) ps
left_later existing known [] qs h = tt
left_later existing known (p ∷ ps) qs h = (stays_all existing known p qs h.0, left_later existing known ps qs h.1)

-- to propose them again changes nothing
nothing_new : (existing known ps : List Proposal) → AreLeftOut existing known ps → fold (with_proposal existing) known ps ≡ known
nothing_new existing known [] h = refl
nothing_new existing known (p ∷ ps) h =
    ap (λ (k : List Proposal). fold (with_proposal existing) k ps) (with_proposal-left existing known p h.0) ∙ nothing_new existing known ps h.1

-- ## Groups

proposals_of : Catalogue → List Group → List Proposal
proposals_of cat groups = flat_map (λ group. work_proposals cat group.first.work) groups

join_proposes : (cat : Catalogue) (existing known : List Proposal) (groups : List Group) (n : ℕ) (s : Statement)
    → fold (with_proposal existing) (fold (with_proposal existing) known (proposals_of cat groups)) (work_proposals cat s.work)
    ≡ fold (with_proposal existing) known (proposals_of cat (joined cat groups (n, s)))
unfolding proposals_of
join_proposes cat existing known [] n s = ap (fold (with_proposal existing) known) (sym (append-nil (work_proposals cat s.work)))
join_proposes cat existing known (group ∷ groups) n s =
    by_case (join_proposes cat existing (fold (with_proposal existing) known (work_proposals cat group.first.work)) groups n s) (takes cat s group) refl
  where
    own : List Proposal
    own = work_proposals cat group.first.work

    rest : List Proposal
    rest = proposals_of cat groups

    by_case : fold (with_proposal existing) (fold (with_proposal existing) (fold (with_proposal existing) known own) rest) (work_proposals cat s.work)
        ≡ fold (with_proposal existing) (fold (with_proposal existing) known own) (proposals_of cat (joined cat groups (n, s)))
        → (b : Bool) → takes cat s group ≡ b
        → fold (with_proposal existing) (fold (with_proposal existing) known (proposals_of cat (group ∷ groups))) (work_proposals cat s.work)
        ≡ fold (with_proposal existing) known (proposals_of cat (if b then heavier group s.weight ∷ groups else group ∷ joined cat groups (n, s)))
    by_case later true e =
        let both = and_parts (nat_le (group.weight + s.weight) MOST_WEIGHT) (is_alike cat group.first.work s.work) e in
        let same : own ≡ work_proposals cat s.work = same_work_proposals cat group.first.work s.work both.1 in
        let left : AreLeftOut existing (fold (with_proposal existing) (fold (with_proposal existing) known own) rest) own = left_later existing (fold (with_proposal existing) known own) own rest (left_after existing known own) in
        let whole : AreLeftOut existing (fold (with_proposal existing) known (own ++ rest)) own = subst (λ (k : List Proposal). AreLeftOut existing k own) (sym (fold-append (with_proposal existing) known own rest)) left in
        nothing_new existing (fold (with_proposal existing) known (own ++ rest)) (work_proposals cat s.work) (subst (λ (ps : List Proposal). AreLeftOut existing (fold (with_proposal existing) known (own ++ rest)) ps) same whole)
    by_case later false e =
        ap (λ (k : List Proposal). fold (with_proposal existing) k (work_proposals cat s.work)) (fold-append (with_proposal existing) known own rest)
        ∙ later
        ∙ sym (fold-append (with_proposal existing) known own (proposals_of cat (joined cat groups (n, s))))

all_propose : (cat : Catalogue) (existing : List Proposal) (groups : List Group) (n : ℕ) (statements : List Statement)
    → fold (with_proposal existing) (fold (with_proposal existing) [] (proposals_of cat groups)) (flat_map (λ s. work_proposals cat s.work) statements)
    ≡ fold (with_proposal existing) [] (proposals_of cat (fold (joined cat) groups (enumerate_from n statements)))
all_propose cat existing groups n [] = refl
all_propose cat existing groups n (s ∷ statements) =
    fold-append (with_proposal existing) (fold (with_proposal existing) [] (proposals_of cat groups)) (work_proposals cat s.work) (flat_map (λ t. work_proposals cat t.work) statements)
    ∙ ap (λ (k : List Proposal). fold (with_proposal existing) k (flat_map (λ t. work_proposals cat t.work) statements)) (join_proposes cat existing [] groups n s)
    ∙ all_propose cat existing (joined cat groups (n, s)) (n + 1) statements

stand_propose : (cat : Catalogue) (groups : List Group) (folded : List Statement) → StandFor cat groups folded → proposals_of cat groups ≡ flat_map (λ s. work_proposals cat s.work) folded
unfolding proposals_of
stand_propose cat [] [] h = refl
stand_propose cat [] (s ∷ folded) h = absurd h
stand_propose cat (group ∷ groups) [] h = absurd h
stand_propose cat (group ∷ groups) (s ∷ folded) h =
    let here = same_work_proposals cat group.first.work s.work h.1 in
    let later = stand_propose cat groups folded h.2 in
    λ i. here i ++ later i

pub same_fresh : (cat : Catalogue) (statements folded : List Statement) → IsFolded cat statements folded → fresh_proposals cat statements ≡ fresh_proposals cat folded
unfolding fresh_proposals proposals groups_of proposals_of
same_fresh cat statements folded h =
    all_propose cat (existing_indexes cat) [] 1 statements
    ∙ ap (fold (with_proposal (existing_indexes cat)) []) (stand_propose cat (groups_of cat statements) folded h)

pub same_candidates : (cat : Catalogue) (statements folded : List Statement) (shapes : List IndexShape) (left_over : ℕ) → IsFolded cat statements folded
    → AreCandidates cat statements shapes left_over ↔ AreCandidates cat folded shapes left_over
same_candidates cat statements folded shapes left_over h =
    let fresh = same_fresh cat statements folded h in (
      λ are. record { proposed = are.proposed ∙ (λ i. take 256 (fresh i)); not_unique = are.not_unique; rest = are.rest ∙ (λ i. length (fresh i) - 256) },
      λ are. record { proposed = are.proposed ∙ (λ i. take 256 (sym fresh i)); not_unique = are.not_unique; rest = are.rest ∙ (λ i. length (sym fresh i) - 256) },
    )
