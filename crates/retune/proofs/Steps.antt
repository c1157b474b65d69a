-- What steps keep.
use Rattle.std.proofs.Common.{◌≡◌, ℕ, zero, suc, ◌+◌, ◌<◌, ◌≤◌, List, [], ◌∷◌, ◌++◌, length, All, length-append, refl, sym, ap, subst, arith}
use Rattle.std.specs.Prelude.{Option}
use Rattle.std.specs.List.{remove}
use Rattle.std.proofs.lemmas.List.Elements.{All-append, All-cons, All-nil}
use Rattle.std.proofs.lemmas.List.Sums.{sum_by-append}
use Rattle.adv_base.specs.declared.catalogue.Catalogue.{Catalogue}
use Rattle.adv_base.specs.declared.catalogue.index.IndexShape.{IndexShape}
use Rattle.adv_base.specs.declared.limits.TheConstants.{MOST_CANDIDATES, MOST_SLOTS_IN_ALL}
use Rattle.adv_base.specs.declared.workload.Statement.{Statement}
use Rattle.adv_base.specs.Limits.Settings.{SettingLimits, slot_count}
use Rattle.adv_base.specs.Named.{NamesWork, NamesShape}
use Rattle.bip_model.specs.StandsFor.{AreEach}
use Rattle.bip_model.proofs.Lists.{each-more}
use Rattle.inum_cache.specs.declared.cache.Cache.{Cache}
use Rattle.retune.specs.Steps.{slots_in_all, HasRoom, HasSlots}
use Rattle.programme_parts.specs.Caches.{IsCacheFor, AreCached}
use Rattle.retune.proofs.Moving.{split, removed-is}

-- ## Limits

pub limits-with : (cat : Catalogue) (statements : List Statement) (some shapes : List IndexShape) → SettingLimits cat statements some → length shapes ≤ MOST_CANDIDATES → All (NamesShape cat) shapes → SettingLimits cat statements shapes
limits-with cat statements some shapes h few named =
    record { statements_most = h.statements_most; slots_most = h.slots_most; shapes_most = few; statements_named = h.statements_named; shapes_named = named }

abbrev Named : Catalogue → Statement → Type 0
Named cat statement = NamesWork cat statement.work

slots-append : (xs ys : List Statement) → slots_in_all (xs ++ ys) ≡ slots_in_all xs + slots_in_all ys
slots-append xs ys = sum_by-append (λ statement. slot_count statement.work) xs ys

pub slots-cons : (x : Statement) (xs : List Statement) → slots_in_all (x ∷ xs) ≡ slot_count x.work + slots_in_all xs
slots-cons x xs =
    let both = slots-append (x ∷ []) xs in
    let one : slots_in_all (x ∷ []) ≡ 0 + slot_count x.work = refl in
    omega (arith, both, one)

pub limits-more : (cat : Catalogue) (statements : List Statement) (shapes : List IndexShape) (statement : Statement) → SettingLimits cat statements shapes → HasRoom statements → HasSlots statements statement → NamesWork cat statement.work →
    SettingLimits cat (statements ++ statement ∷ []) []
limits-more cat statements shapes statement h room slots named =
    record {
      statements_most = omega (arith, length-append statements (statement ∷ []), room);
      slots_most = (let one = slots-append statements (statement ∷ []) in let own : slots_in_all (statement ∷ []) ≡ 0 + slot_count statement.work = refl in omega (arith, one, own, slots));
      shapes_most = omega arith;
      statements_named = All-append (Named cat) statements (statement ∷ []) h.statements_named (All-cons (Named cat) statement [] named (All-nil (Named cat)));
      shapes_named = All-nil (NamesShape cat);
    }

slots-less : (front back : List Statement) (x : Statement) → slots_in_all (front ++ back) ≤ slots_in_all (front ++ x ∷ back)
slots-less front back x =
    let one = slots-append front (x ∷ back) in
    let two = slots-append front back in
    let cons = slots-cons x back in
    omega (arith, one, two, cons)

all-parts : {A : Type 0} (P : A → Type 0) (front back : List A) (x : A) → All P (front ++ x ∷ back) → All P (front ++ back)
all-parts P [] back x h = λ k d within. h (suc k) d (omega (arith, within))
all-parts P (y ∷ front) back x h = All-cons P y (front ++ back) (h 0 y (omega arith)) (all-parts P front back x (λ k d within. h (suc k) d (omega (arith, within))))

pub limits-less : (cat : Catalogue) (statements : List Statement) (shapes : List IndexShape) (at : ℕ) → SettingLimits cat statements shapes → at < length statements → SettingLimits cat (remove statements at) []
limits-less cat statements shapes at h within =
    let s = split statements at within in
    subst (λ (xs : List Statement). SettingLimits cat xs []) (sym (removed-is statements at s))
    (record {
      statements_most = omega (arith, h.statements_most, ap length s.is, length-append s.front (s.item ∷ s.back), length-append s.front s.back);
      slots_most = (let most : slots_in_all (s.front ++ s.item ∷ s.back) ≤ MOST_SLOTS_IN_ALL = subst (λ (xs : List Statement). slots_in_all xs ≤ MOST_SLOTS_IN_ALL) s.is h.slots_most in omega (arith, most, slots-less s.front s.back s.item));
      shapes_most = omega arith;
      statements_named = all-parts (Named cat) s.front s.back s.item (subst (All (Named cat)) s.is h.statements_named);
      shapes_named = All-nil (NamesShape cat);
    })

-- ## Caches

each-removed : {A B : Type 0} (P : A → B → Type 0) (xs : List A) (ys : List B) (at : ℕ) → AreEach P xs ys → at < length xs → AreEach P (remove xs at) (remove ys at)
each-removed P [] [] at are h = absurd (omega arith)
each-removed P [] (y ∷ ys) at are h = absurd are
each-removed P (x ∷ xs) [] at are h = absurd are
each-removed P (x ∷ xs) (y ∷ ys) zero are h = are.1
each-removed P (x ∷ xs) (y ∷ ys) (suc at) are h = (are.0, each-removed P xs ys at are.1 (omega arith))

pub cached-less : (cat : Catalogue) (statements : List Statement) (caches : List (Option Cache)) (at : ℕ) → AreCached cat statements caches → at < length statements → AreCached cat (remove statements at) (remove caches at)
cached-less cat statements caches at are within = each-removed (IsCacheFor cat) statements caches at are within

-- a statement and its cache more
pub cached-more : (cat : Catalogue) (statements : List Statement) (caches : List (Option Cache)) (statement : Statement) (cache : Option Cache) (xs : List Statement) (ys : List (Option Cache)) → AreCached cat statements caches → IsCacheFor cat statement cache →
    xs ≡ statements ++ statement ∷ [] → ys ≡ caches ++ cache ∷ [] → AreCached cat xs ys
cached-more cat statements caches statement cache xs ys are is grown kept =
    subst (λ (zs : List Statement). AreCached cat zs ys) (sym grown)
    (subst (AreCached cat (statements ++ statement ∷ [])) (sym kept) (each-more (IsCacheFor cat) statements caches statement cache are is))
