-- Statements of which one got another weight.
use Rattle.std.proofs.Common.{◌≡◌, ◌∙◌, ℕ, zero, suc, ◌+◌, ◌-◌, ◌<◌, ◌≤◌, ◌==◌, cond, List, [], ◌∷◌, length, set, get_or, map, take, fold, All, refl, sym, ap, subst, arith}
use Rattle.std.specs.Prelude.{Option, Some, slice_get}
use Rattle.std.specs.List.{flat_map}
use Rattle.std.proofs.lemmas.Bool.{eq-eqb, ne_eqb}
use Rattle.std.proofs.lemmas.List.Elements.{All-cons, All-nil}
use Rattle.std.proofs.lemmas.List.Folds.{flat_map-map}
use Rattle.std.proofs.lemmas.Option.{slice_get_within, get_or_from_slice_get}
use Rattle.adv_base.specs.declared.catalogue.Catalogue.{Catalogue}
use Rattle.adv_base.specs.declared.catalogue.index.IndexShape.{IndexShape}
use Rattle.adv_base.specs.declared.limits.TheConstants.{MOST_CANDIDATES}
use Rattle.adv_base.specs.declared.workload.Statement.{Statement}
use Rattle.adv_base.specs.declared.workload.Work.{Work}
use Rattle.adv_base.specs.Limits.Settings.{SettingLimits, slot_count}
use Rattle.adv_base.specs.Named.{NamesWork}
use Rattle.bip_model.specs.StandsFor.{AreEach}
use Rattle.bip_model.proofs.Lists.{each-length}
use Rattle.candidates.specs.Candidates.{AreCandidates, existing_indexes, fresh_proposals, with_proposal}
use Rattle.candidates.specs.Growing.{TheProposed, IsProposed}
use Rattle.candidates.specs.Proposals.{Proposal, proposals, work_proposals}
use Rattle.plan_model.specs.Totals.{block_of}
use Rattle.inum_cache.specs.declared.cache.Cache.{Cache}
use Rattle.retune.specs.Steps.{AreReweighed, slots_in_all}
use Rattle.programme_parts.specs.Caches.{HoldsCache, AreCached}
use Rattle.retune.proofs.Steps.{slots-cons}

-- ## The same but for weights

abbrev SameWork : Statement → Statement → Type 0
SameWork x y = x.work ≡ y.work

abbrev pub Alike : List Statement → List Statement → Type 0
Alike xs ys = AreEach SameWork xs ys

alike-refl : (xs : List Statement) → Alike xs xs
alike-refl [] = tt
alike-refl (x ∷ xs) = (refl, alike-refl xs)

alike-set : (xs : List Statement) (at : ℕ) (new d : Statement) → at < length xs → new.work ≡ (get_or xs at d).work → Alike xs (set xs at new)
alike-set [] at new d within same = absurd (omega arith)
alike-set (x ∷ xs) zero new d within same = (sym same, alike-refl xs)
alike-set (x ∷ xs) (suc at) new d within same = (refl, alike-set xs at new d (omega arith) same)

pub alike : (before after : List Statement) (number weight : ℕ) → AreReweighed before number weight after → Alike before after
alike before after number weight h =
    let within = slice_get_within before (number - 1) h.old h.found in
    let read = get_or_from_slice_get before (number - 1) h.old h.old h.found in
    subst (Alike before) (sym h.after_is) (alike-set before (number - 1) h.new h.old within (h.work_is ∙ ap (λ (s : Statement). s.work) (sym read)))

alike-slots : (xs ys : List Statement) → Alike xs ys → slots_in_all xs ≡ slots_in_all ys
alike-slots [] [] h = refl
alike-slots [] (y ∷ ys) h = absurd h
alike-slots (x ∷ xs) [] h = absurd h
alike-slots (x ∷ xs) (y ∷ ys) h =
    let more = alike-slots xs ys h.1 in
    let own : slot_count x.work ≡ slot_count y.work = ap slot_count h.0 in
    let left = slots-cons x xs in
    let right = slots-cons y ys in
    omega (arith, more, own, left, right)

alike-named : (cat : Catalogue) (xs ys : List Statement) → Alike xs ys → All (λ statement. NamesWork cat statement.work) xs → All (λ statement. NamesWork cat statement.work) ys
alike-named cat [] [] h all = All-nil (λ statement. NamesWork cat statement.work)
alike-named cat [] (y ∷ ys) h all = absurd h
alike-named cat (x ∷ xs) [] h all = absurd h
alike-named cat (x ∷ xs) (y ∷ ys) h all =
    All-cons (λ statement. NamesWork cat statement.work) y ys (subst (NamesWork cat) h.0 (all 0 x (omega arith)))
    (alike-named cat xs ys h.1 (λ k d within. all (suc k) d (omega (arith, within))))

pub alike-limits : (cat : Catalogue) (xs ys : List Statement) (shapes : List IndexShape) → Alike xs ys → SettingLimits cat xs shapes → SettingLimits cat ys shapes
alike-limits cat xs ys shapes h limits =
    record {
      statements_most = omega (arith, limits.statements_most, each-length SameWork xs ys h);
      slots_most = omega (arith, limits.slots_most, alike-slots xs ys h);
      shapes_most = limits.shapes_most;
      statements_named = alike-named cat xs ys h limits.statements_named;
      shapes_named = limits.shapes_named;
    }

pub alike-cached : (cat : Catalogue) (xs ys : List Statement) (caches : List (Option Cache)) → Alike xs ys → AreCached cat xs caches → AreCached cat ys caches
alike-cached cat [] [] caches h are = are
alike-cached cat [] (y ∷ ys) caches h are = absurd h
alike-cached cat (x ∷ xs) [] caches h are = absurd h
alike-cached cat (x ∷ xs) (y ∷ ys) [] h are = absurd are
alike-cached cat (x ∷ xs) (y ∷ ys) (cache ∷ caches) h are =
    (subst (λ (work : Work). HoldsCache cat (block_of work) cache) h.0 are.0, alike-cached cat xs ys caches h.1 are.1)

-- ## The same proposals

works : (xs ys : List Statement) → Alike xs ys → map (λ (s : Statement). s.work) xs ≡ map (λ (s : Statement). s.work) ys
works [] [] h = refl
works [] (y ∷ ys) h = absurd h
works (x ∷ xs) [] h = absurd h
works (x ∷ xs) (y ∷ ys) h =
    ap (λ (work : Work). work ∷ map (λ (s : Statement). s.work) xs) h.0 ∙ ap (λ (rest : List Work). y.work ∷ rest) (works xs ys h.1)

same-proposals : (cat : Catalogue) (xs ys : List Statement) → Alike xs ys → proposals cat xs ≡ proposals cat ys
unfolding proposals
same-proposals cat xs ys h =
    sym (flat_map-map (work_proposals cat) (λ (s : Statement). s.work) xs) ∙ ap (flat_map (work_proposals cat)) (works xs ys h) ∙ flat_map-map (work_proposals cat) (λ (s : Statement). s.work) ys

same-fresh : (cat : Catalogue) (xs ys : List Statement) → Alike xs ys → fresh_proposals cat xs ≡ fresh_proposals cat ys
unfolding fresh_proposals
same-fresh cat xs ys h = ap (λ (proposed : List Proposal). fold (with_proposal (existing_indexes cat)) [] proposed) (same-proposals cat xs ys h)

pub alike-candidates : (cat : Catalogue) (xs ys : List Statement) (shapes : List IndexShape) (left_over : ℕ) → Alike xs ys → AreCandidates cat xs shapes left_over → AreCandidates cat ys shapes left_over
alike-candidates cat xs ys shapes left_over h are =
    let same = same-fresh cat xs ys h in
    record {
      proposed = are.proposed ∙ ap (take MOST_CANDIDATES) same;
      not_unique = are.not_unique;
      rest = are.rest ∙ ap (λ (proposed : List Proposal). length proposed - MOST_CANDIDATES) same;
    }

pub alike-proposed : (cat : Catalogue) (xs ys : List Statement) (proposed : TheProposed) → Alike xs ys → IsProposed cat xs proposed → IsProposed cat ys proposed
alike-proposed cat xs ys proposed h are = record { existing_are = are.existing_are; fresh_are = are.fresh_are ∙ same-fresh cat xs ys h }

-- ## Weights

-- each statement, numbered from q, has the weight that one number got, and else its own
abbrev pub ByWeight : ℕ → ℕ → ℕ → List Statement → List Statement → Type 0
ByWeight number weight q [] [] = Unit {0}
ByWeight number weight q (x ∷ xs) (y ∷ ys) = (y.work ≡ x.work) × (y.weight ≡ cond (q == number) weight x.weight) × ByWeight number weight (suc q) xs ys
ByWeight number weight q xs ys = ⊥

own-weight : (number weight q own : ℕ) → (q ≡ number → ⊥) → own ≡ cond (q == number) weight own
own-weight number weight q own other = rw (ne_eqb q number other) refl

by-refl : (number weight q : ℕ) (xs : List Statement) → number < q → ByWeight number weight q xs xs
by-refl number weight q [] past = tt
by-refl number weight q (x ∷ xs) past =
    (refl, own-weight number weight q x.weight (λ same. omega (arith, same, past)), by-refl number weight (suc q) xs (omega (arith, past)))

by-set : (number weight q at : ℕ) (xs : List Statement) (new d : Statement) → at < length xs → q + at ≡ number → new.work ≡ (get_or xs at d).work → new.weight ≡ weight → ByWeight number weight q xs (set xs at new)
by-set number weight q at [] new d within place work heavy = absurd (omega arith)
by-set number weight q zero (x ∷ xs) new d within place work heavy =
    let here : q ≡ number = omega (arith, place) in
    (work, rw (eq-eqb q number here) heavy, by-refl number weight (suc q) xs (omega (arith, here)))
by-set number weight q (suc at) (x ∷ xs) new d within place work heavy =
    let next : suc q + at ≡ number = omega (arith, place) in
    (refl, own-weight number weight q x.weight (λ same. omega (arith, same, place)), by-set number weight (suc q) at xs new d (omega arith) next work heavy)

pub by-weight : (before after : List Statement) (number weight : ℕ) → 1 ≤ number → AreReweighed before number weight after → ByWeight number weight 1 before after
by-weight before after number weight some h =
    let within = slice_get_within before (number - 1) h.old h.found in
    let read = get_or_from_slice_get before (number - 1) h.old h.old h.found in
    subst (ByWeight number weight 1 before) (sym h.after_is)
    (by-set number weight 1 (number - 1) before h.new h.old within (omega (arith, some)) (h.work_is ∙ ap (λ (s : Statement). s.work) (sym read)) h.weight_is)

-- one that was given a weight
pub reweighed-of : (xs : List Statement) (at weight : ℕ) (old new : Statement) → slice_get xs at ≡ Some old → new.weight ≡ weight → new.work ≡ old.work → AreReweighed xs (at + 1) weight (set xs at new)
reweighed-of xs at weight old new found heavy work =
    let place : at ≡ (at + 1) - 1 = omega arith in
    record {
      old = old;
      new = new;
      found = subst (λ (i : ℕ). slice_get xs i ≡ Some old) place found;
      weight_is = heavy;
      work_is = work;
      after_is = ap (λ (i : ℕ). set xs i new) place;
    }
