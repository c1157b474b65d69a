-- Laws of the least prices of orders where candidates pay rents, and of what templates cost.
use Rattle.std.proofs.Common.{◌≡◌, ◌∙◌, inl, inr, ℕ, zero, suc, ◌+◌, ◌<◌, ◌≤◌, ◌==◌, false, List, [], ◌∷◌, length, fold, take, drop, get_or, min, All, refl, sym, ap, subst, arith}
use Rattle.std.specs.Prelude.{Option, Some, None, slice_get, slice_index_or, slice_set, option_and_then}
use Rattle.std.specs.Option.{ForSome, option_map}
use Rattle.std.proofs.lemmas.Bool.{cases_lt, cases_eq, ne_eqb}
use Rattle.std.proofs.lemmas.Grind.{common_steps}
use Rattle.std.proofs.lemmas.List.{drop-drop, get_or-set_same, get_or-set_other}
use Rattle.std.proofs.lemmas.List.Elements.{All-head, All-tail}
use Rattle.std.proofs.lemmas.Option.{slice_get_cases}
use Rattle.adv_base.specs.declared.limits.TheConstants.{MOST_PRICE, MOST_RENT}
use Rattle.adv_base.specs.declared.setting.Config.{Config}
use Rattle.plan_model.specs.declared.template.Template.{Template}
use Rattle.bip_model.specs.declared.grant.Grant.{Grant}
use Rattle.bip_model.specs.declared.part.Part.{Part}
use Rattle.bip_model.specs.declared.slot_part.SlotPart.{SlotPart}
use Rattle.bip_model.specs.Limits.Parts.{TemplateLimits}
use Rattle.bip_model.specs.Values.{lesser, plus, price_of, granted, need}
use Rattle.bip_model.specs.declared.rows.TheConstants.{NO_PRICE}
use Rattle.bip_model.specs.Words.{word, told, row_cost, row_least}
use Rattle.bip_model.proofs.Pricing.{price_of-price, granted-price}
use Rattle.lagrange_bound.specs.Rented.{asked, least_asked, rented_price, grants_before, needed_price, cost_below, template_cost, least_cost}
use Rattle.lagrange_bound.specs.inner.Rows.{IsRow, IsRowBelow, AreRows}

-- a price with a rent, if any, within both limits
abbrev pub IsPrice : Option ℕ → Type 0
IsPrice price = ForSome price (λ p. p ≤ MOST_PRICE + MOST_RENT)

-- a rent within its limit
abbrev pub AreRents : List ℕ → Type 0
AreRents rents = All (λ rent. rent ≤ MOST_RENT) rents

-- ## Prices are within their limit

none-price : IsPrice None
none-price = λ x is. cc

pub lesser-price : (a b : Option ℕ) → IsPrice a → IsPrice b → IsPrice (lesser a b)
lesser-price None b a_is b_is = b_is
lesser-price (Some a) None a_is b_is = a_is
lesser-price (Some a) (Some b) a_is b_is = λ x is.
    let same : min a b ≡ x = cc in
    let first : a ≤ MOST_PRICE + MOST_RENT = a_is a refl in
    omega (arith, same, first)

plain-price : (a : Option ℕ) → ForSome a (λ p. p ≤ MOST_PRICE) → IsPrice a
plain-price a is = λ x e. let most : x ≤ MOST_PRICE = is x e in omega (arith, most)

pub raised-price : (a : Option ℕ) (rent : ℕ) → ForSome a (λ p. p ≤ MOST_PRICE) → rent ≤ MOST_RENT → IsPrice (option_map (λ p. p + rent) a)
raised-price None rent is most = none-price
raised-price (Some a) rent is most = λ x e.
    let same : a + rent ≡ x = cc in
    let first : a ≤ MOST_PRICE = is a refl in
    omega (arith, same, first, most)

pub asked-price : (config : Config) (o : ℕ) (grant : Grant) (rent : ℕ) → rent ≤ MOST_RENT → IsPrice (asked config o grant rent)
asked-price config o grant rent most = raised-price (granted config o grant) rent (granted-price config o grant) most

least_asked-price : (config : Config) (o : ℕ) (best : Option ℕ) (grants : List Grant) (rents : List ℕ) → IsPrice best → AreRents rents → IsPrice (least_asked config o best grants rents)
least_asked-price config o best [] rents is are = is
least_asked-price config o best (grant ∷ grants) [] is are = is
least_asked-price config o best (grant ∷ grants) (rent ∷ rents) is are =
    least_asked-price config o (lesser best (asked config o grant rent)) grants rents
    (lesser-price best (asked config o grant rent) is (asked-price config o grant rent (All-head (λ (r : ℕ). r ≤ MOST_RENT) rent rents are)))
    (All-tail (λ (r : ℕ). r ≤ MOST_RENT) rent rents are)

pub base-price : (slot : SlotPart) (o : ℕ) → IsPrice (price_of slot.base o)
base-price slot o = plain-price (price_of slot.base o) (price_of-price slot.base slot.limits.base_limits o)

pub rented_price-price : (config : Config) (slot : SlotPart) (rents : List ℕ) (o : ℕ) → AreRents rents → IsPrice (rented_price config slot rents o)
rented_price-price config slot rents o are = least_asked-price config o (price_of slot.base o) slot.grants rents (base-price slot o) are

pub drop-rents : (n : ℕ) (rents : List ℕ) → AreRents rents → AreRents (drop n rents)
drop-rents zero rents are = are
drop-rents (suc n) [] are = are
drop-rents (suc n) (rent ∷ rents) are = drop-rents n rents (All-tail (λ (r : ℕ). r ≤ MOST_RENT) rent rents are)

-- ## Words

pub word-lesser : (a b : Option ℕ) → IsPrice a → IsPrice b → word (lesser a b) ≡ min (word a) (word b)
word-lesser None None a_is b_is = refl
word-lesser None (Some b) a_is b_is = let most : b ≤ MOST_PRICE + MOST_RENT = b_is b refl in omega (arith, most)
word-lesser (Some a) None a_is b_is = let most : a ≤ MOST_PRICE + MOST_RENT = a_is a refl in omega (arith, most)
word-lesser (Some a) (Some b) a_is b_is = refl

pub told-word : (a : Option ℕ) → IsPrice a → told (word a) ≡ a
told-word None is = refl
told-word (Some a) is =
    let most : a ≤ MOST_PRICE + MOST_RENT = is a refl in
    let other : (a == NO_PRICE) ≡ false = ne_eqb a NO_PRICE (omega (arith, most)) in
    rw other refl

-- ## Rows

-- one grant more
least_asked-suc : (config : Config) (o : ℕ) (best : Option ℕ) (grants : List Grant) (rents : List ℕ) (i : ℕ) (grant : Grant) (rent : ℕ) → i < length grants → i < length rents →
    grant ≡ get_or grants i grant → rent ≡ get_or rents i 0 →
    least_asked config o best (take (suc i) grants) rents ≡ lesser (least_asked config o best (take i grants) rents) (asked config o grant rent)
least_asked-suc config o best [] rents i grant rent within inside is there = absurd (omega (arith, within))
least_asked-suc config o best (g ∷ grants) [] i grant rent within inside is there = absurd (omega (arith, inside))
least_asked-suc config o best (g ∷ grants) (r ∷ rents) zero grant rent within inside is there =
    ap (λ (x : Grant). lesser best (asked config o x r)) (sym is) ∙ ap (λ (x : ℕ). lesser best (asked config o grant x)) (sym there)
least_asked-suc config o best (g ∷ grants) (r ∷ rents) (suc i) grant rent within inside is there =
    least_asked-suc config o (lesser best (asked config o g r)) grants rents i grant rent (omega (arith, within)) (omega (arith, inside)) is there

least_asked-more : (config : Config) (o : ℕ) (best : Option ℕ) (grants : List Grant) (rents : List ℕ) (i : ℕ) (grant : Grant) (rent : ℕ) → i < length grants → i < length rents →
    grant ≡ get_or grants i grant → rent ≡ get_or rents i 0 →
    least_asked config o best (take (i + 1) grants) rents ≡ lesser (least_asked config o best (take i grants) rents) (asked config o grant rent)
least_asked-more config o best grants rents i grant rent within inside is there =
    let next : i + 1 ≡ suc i = omega arith in
    ap (λ (n : ℕ). least_asked config o best (take n grants) rents) next ∙ least_asked-suc config o best grants rents i grant rent within inside is there

pub asked-step : (config : Config) (slot : SlotPart) (grants : List Grant) (rents : List ℕ) (i o : ℕ) (grant : Grant) (rent old new : ℕ) → AreRents rents →
    i < length grants → i < length rents → grant ≡ get_or grants i grant → rent ≡ get_or rents i 0 →
    old ≡ word (least_asked config o (price_of slot.base o) (take i grants) rents) →
    new ≡ min old (word (asked config o grant rent)) →
    new ≡ word (least_asked config o (price_of slot.base o) (take (i + 1) grants) rents)
asked-step config slot grants rents i o grant rent old new are within inside is there before after =
    let start : Option ℕ = price_of slot.base o in
    let so_far : Option ℕ = least_asked config o start (take i grants) rents in
    let most : rent ≤ MOST_RENT = subst (λ (r : ℕ). r ≤ MOST_RENT) (sym there) (are i 0 inside) in
    let more = least_asked-more config o start grants rents i grant rent within inside is there in
    let joined : word (lesser so_far (asked config o grant rent)) ≡ min (word so_far) (word (asked config o grant rent)) =
    word-lesser so_far (asked config o grant rent)
    (least_asked-price config o start (take i grants) rents (base-price slot o) are) (asked-price config o grant rent most) in
    after ∙ ap (λ (n : ℕ). min n (word (asked config o grant rent))) before ∙ sym joined ∙ ap word (sym more)

-- rents past those of the grants don't count
least_asked-take : (config : Config) (o : ℕ) (best : Option ℕ) (grants : List Grant) (rents : List ℕ) → least_asked config o best grants (take (length grants) rents) ≡ least_asked config o best grants rents
least_asked-take config o best [] rents = refl
least_asked-take config o best (grant ∷ grants) [] = refl
least_asked-take config o best (grant ∷ grants) (rent ∷ rents) = least_asked-take config o (lesser best (asked config o grant rent)) grants rents

-- a row of a slot by its own rents is one by all from there on
pub row-own : (config : Config) (slot : SlotPart) (rents : List ℕ) (n : ℕ) (row : List ℕ) → n ≡ length slot.grants → IsRow config slot (take n rents) row → IsRow config slot rents row
row-own config slot rents n row few is = λ o below.
    is o below ∙ ap (λ (k : ℕ). word (rented_price config slot (take k rents) o)) few ∙ ap word (least_asked-take config o (price_of slot.base o) slot.grants rents)

-- the price that a template needs of a slot, told by its row
told-needed : (config : Config) (slots : List SlotPart) (rents : List ℕ) (rows : List (List ℕ)) (template : Template) (n s : ℕ) → AreRents rents → AreRows config slots rents n rows → TemplateLimits slots template → s < n → s < length slots →
    told (slice_index_or (slice_index_or rows s []) (need template s) 0) ≡ needed_price config slots rents template s
told-needed config slots rents rows template n s few are limits below within =
    elim (slice_get_cases slots s).1 [
      | inl there ↦
          let slot : SlotPart = there.0 in
          let found : slice_get slots s ≡ Some slot = there.2 in
          let own : List ℕ = drop (grants_before slots s) rents in
          let row : slice_index_or (slice_index_or rows s []) (need template s) 0 ≡ word (rented_price config slot own (need template s)) =
          are s slot below found (need template s) (limits.needs_within s slot found) in
          ap told row ∙ told-word (rented_price config slot own (need template s)) (rented_price-price config slot own (need template s) (drop-rents (grants_before slots s) rents few))
          ∙ sym (ap (option_and_then (λ (slot : SlotPart). rented_price config slot own (need template s))) found)
      | inr past ↦ absurd (omega (arith, within, past.0))
    ]

-- the rows tell what a template costs
pub row_cost-template : (config : Config) (slots : List SlotPart) (rents : List ℕ) (rows : List (List ℕ)) (template : Template) (n : ℕ) → AreRents rents → AreRows config slots rents (length slots) rows → TemplateLimits slots template → n ≤ length slots →
    row_cost rows template n ≡ cost_below config slots rents template n
unfolding row_cost cost_below
row_cost-template config slots rents rows template zero few are limits within = refl
row_cost-template config slots rents rows template (suc n) few are limits within =
    let before : row_cost rows template n ≡ cost_below config slots rents template n = row_cost-template config slots rents rows template n few are limits (omega (arith, within)) in
    let here = told-needed config slots rents rows template (length slots) n few are limits (omega (arith, within)) (omega (arith, within)) in
    ap (λ (a : Option ℕ). plus a (told (slice_index_or (slice_index_or rows n []) (need template n) 0))) before
    ∙ ap (plus (cost_below config slots rents template n)) here

-- ## Steps of the loops

-- one row more
pub rows-step : (config : Config) (slots : List SlotPart) (rents : List ℕ) (rows : List (List ℕ)) (at next s : ℕ) (slot : SlotPart) (row : List ℕ) →
    s < length rows → slice_get slots s ≡ Some slot → next ≡ at + grants_before slots s → AreRows config slots (drop at rents) s rows → IsRow config slot (drop next rents) row →
    AreRows config slots (drop at rents) (s + 1) (slice_set rows s row)
rows-step config slots rents rows at next s slot row within found place are is = λ k other below there.
    elim (cases_lt k s) [
      | inl before ↦
          let kept : slice_index_or (slice_set rows s row) k [] ≡ slice_index_or rows k [] = grind (arith, common_steps) in
          subst (IsRow config other (drop (grants_before slots k) (drop at rents))) (sym kept) (are k other before there)
      | inr past ↦
          let here : k ≡ s = omega (arith, below, past) in
          let same : other ≡ slot = cc in
          let put : slice_index_or (slice_set rows s row) k [] ≡ row = grind (arith, common_steps) in
          let own : drop next rents ≡ drop (grants_before slots k) (drop at rents) =
          ap (λ (n : ℕ). drop n rents) (place ∙ ap (λ (j : ℕ). at + grants_before slots j) (sym here)) ∙ sym (drop-drop (grants_before slots k) at rents) in
          subst (IsRow config other (drop (grants_before slots k) (drop at rents))) (sym put)
          (subst (λ (rs : List ℕ). IsRow config other rs row) own (subst (λ (o : SlotPart). IsRow config o (drop next rents) row) (sym same) is))
    ]

-- the rows tell the least cost of templates
templates-least : (config : Config) (slots : List SlotPart) (rents : List ℕ) (rows : List (List ℕ)) (best : Option ℕ) (templates : List Template) → AreRents rents → AreRows config slots rents (length slots) rows → All (TemplateLimits slots) templates →
    fold (λ best template. lesser best (row_cost rows template (length slots))) best templates ≡ fold (λ best template. lesser best (template_cost config slots rents template)) best templates
templates-least config slots rents rows best [] few are limits = refl
templates-least config slots rents rows best (template ∷ templates) few are limits =
    let own : row_cost rows template (length slots) ≡ template_cost config slots rents template =
    row_cost-template config slots rents rows template (length slots) few are (All-head (TemplateLimits slots) template templates limits) (omega arith) in
    ap (λ (cost : Option ℕ). fold (λ best template. lesser best (row_cost rows template (length slots))) (lesser best cost) templates) own
    ∙ templates-least config slots rents rows (lesser best (template_cost config slots rents template)) templates few are (All-tail (TemplateLimits slots) template templates limits)

-- and so a part's
pub row_least-part : (config : Config) (part : Part) (slots : List SlotPart) (rents : List ℕ) (rows : List (List ℕ)) → slots ≡ part.slots → AreRents rents → AreRows config slots rents (length slots) rows →
    row_least rows part ≡ least_cost config part rents
row_least-part config part slots rents rows same few are =
    templates-least config part.slots rents rows None part.templates few (subst (λ (ss : List SlotPart). AreRows config ss rents (length ss) rows) same are) part.limits.templates_limits

-- one order more
pub row-more : (config : Config) (slot : SlotPart) (rents row : List ℕ) (n v : ℕ) → n < length row → v ≡ word (rented_price config slot rents n) → IsRowBelow config slot rents n row → IsRowBelow config slot rents (n + 1) (slice_set row n v)
row-more config slot rents row n v within is before = λ o below inside.
    elim (cases_eq o n) [
      | inl here ↦
          ap (λ (k : ℕ). slice_index_or (slice_set row n v) k 0) here ∙ get_or-set_same row n v 0 within ∙ is ∙ ap (λ (k : ℕ). word (rented_price config slot rents k)) (sym here)
      | inr other ↦ get_or-set_other row n o v 0 other ∙ before o (omega (arith, below, other)) inside
    ]

-- no order stands below the first
pub row-none : (config : Config) (slot : SlotPart) (rents row : List ℕ) → IsRowBelow config slot rents 0 row
row-none config slot rents row = λ o below. absurd (omega (arith, below))
