-- What is known behind proposals is what is known behind these, each once.
use Rattle.std.proofs.Common.{◌≡◌, Bool, true, false, ◌==◌, ◌||◌, List, [], ◌∷◌, length, refl, sym, ap, subst, ◌∙◌}
use Rattle.std.specs.Prelude.{nat_lt, fold, All}
use Rattle.std.specs.List.{list_any}
use Rattle.std.proofs.Math.Bool.{or-true}
use Rattle.std.proofs.lemmas.List.Elements.{All-push}
use Rattle.std.proofs.lemmas.List.Sums.{fold-append}
use Rattle.adv_base.specs.declared.limits.TheConstants.{MOST_KEYS}
use Rattle.candidates.specs.Proposals.{Proposal}
use Rattle.candidates.specs.Candidates.{is_same, is_left_out, with_proposal}
use Rattle.candidates.proofs.KnownLemmas.{with_proposal-left, with_proposal-added}
use Rattle.candidates.proofs.FreshLaws.{Fits, any-added, left_out-fits}

or_false : (a : Bool) → (a || false) ≡ a
or_false true = refl
or_false false = refl

-- what is left out of some proposals is left out of what is known behind them
left-still : (known own : List Proposal) (p : Proposal) → All Fits own → is_left_out [] own p ≡ true → is_left_out [] (fold (with_proposal []) known own) p ≡ true
left-still known own p fits e = by_case (length p.keys == 0 || nat_lt MOST_KEYS (length p.keys)) refl
  where
    all : List Proposal
    all = fold (with_proposal []) known own

    by_case : (b : Bool) → (length p.keys == 0 || nat_lt MOST_KEYS (length p.keys)) ≡ b → is_left_out [] all p ≡ true
    by_case true m = ap (λ (t : Bool). (t || list_any (is_same p) all) || false) m
    by_case false m =
        let there : list_any (is_same p) own ≡ true =
        sym (or_false (list_any (is_same p) own)) ∙ sym (ap (λ (t : Bool). (t || list_any (is_same p) own) || false) m) ∙ e in
        ap (λ (t : Bool). (t || list_any (is_same p) all) || false) m ∙ or_false (list_any (is_same p) all)
        ∙ any-added p known own fits ∙ ap (λ (t : Bool). list_any (is_same p) known || t) there ∙ or-true (list_any (is_same p) known)

once-more : (known own : List Proposal) (p : Proposal) → All Fits own → with_proposal [] (fold (with_proposal []) known own) p ≡ fold (with_proposal []) known (with_proposal [] own p)
once-more known own p fits = by_case (is_left_out [] own p) refl
  where
    all : List Proposal
    all = fold (with_proposal []) known own

    by_case : (b : Bool) → is_left_out [] own p ≡ b → with_proposal [] all p ≡ fold (with_proposal []) known (with_proposal [] own p)
    by_case true e =
        with_proposal-left [] all p (left-still known own p fits e) ∙ sym (ap (fold (with_proposal []) known) (with_proposal-left [] own p e))
    by_case false e =
        sym (ap (fold (with_proposal []) known) (with_proposal-added [] own p e) ∙ fold-append (with_proposal []) known own (p ∷ []))

fits-more : (own : List Proposal) (p : Proposal) → All Fits own → All Fits (with_proposal [] own p)
fits-more own p fits = by_case (is_left_out [] own p) refl
  where
    by_case : (b : Bool) → is_left_out [] own p ≡ b → All Fits (with_proposal [] own p)
    by_case true e = subst (All Fits) (sym (with_proposal-left [] own p e)) fits
    by_case false e = subst (All Fits) (sym (with_proposal-added [] own p e)) (All-push Fits own p fits (left_out-fits [] own p e))

pub each-once : (known own ps : List Proposal) → All Fits own → fold (with_proposal []) (fold (with_proposal []) known own) ps ≡ fold (with_proposal []) known (fold (with_proposal []) own ps)
each-once known own [] fits = refl
each-once known own (p ∷ ps) fits =
    ap (λ (all : List Proposal). fold (with_proposal []) all ps) (once-more known own p fits)
    ∙ each-once known (with_proposal [] own p) ps (fits-more own p fits)
