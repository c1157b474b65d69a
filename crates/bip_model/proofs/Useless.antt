-- At a node where no open candidate is useful, the Lagrangian value without rents is the total of what is in.
use Rattle.std.proofs.Common.{◌≡◌, ◌∙◌, ◌⊎◌, inl, inr, ℕ, zero, suc, ◌+◌, ◌-◌, ◌<◌, ◌≤◌, ◌==◌, Bool, true, false, cond, List, [], ◌∷◌, ◌++◌, length, map, All, get_or, refl, sym, ap, subst, arith}
use Rattle.std.specs.Prelude.{Option, Some, filter, nat_le, slice_get, slice_index_or, option_and_then}
use Rattle.std.specs.List.{enumerate_from, list_any}
use Rattle.std.specs.Option.{option_map_or}
use Rattle.std.proofs.lemmas.Bool.{cases_Bool, cases_lt, eqb-true, false≢true, or_cases, and_parts}
use Rattle.std.proofs.lemmas.Bool.Decides.{nat_tests}
use Rattle.std.proofs.lemmas.Option.{slice_get_cases, slice_get_within}
use Rattle.adv_base.specs.declared.catalogue.index.IndexShape.{IndexShape}
use Rattle.adv_base.specs.declared.catalogue.table.Table.{Table}
use Rattle.adv_base.specs.declared.limits.TheConstants.{MOST_CANDIDATES}
use Rattle.adv_base.specs.declared.setting.Config.{Config}
use Rattle.adv_base.specs.declared.workload.Statement.{Statement}
use Rattle.adv_base.specs.declared.workload.block.Block.{Block}
use Rattle.adv_base.specs.declared.workload.parts.Slot.{Slot}
use Rattle.adv_base.specs.Configs.{has_candidate, config_pages, candidate_pages}
use Rattle.adv_base.specs.Items.{Order, BeginsWith, is_same_order}
use Rattle.adv_base.specs.Lookups.{table_at}
use Rattle.adv_base.specs.Named.{NamesBlock}
use Rattle.adv_base.specs.Nodes as nodes
use Rattle.adv_base.specs.Nodes.{flags_from, config_of, is_free, is_open, is_available, available}
use Rattle.adv_base.specs.Offers.{Offer, OfferTable, numbered_on, index_offer, offers}
use Rattle.adv_base.specs.OfferTables.{price_at, order_at}
use Rattle.adv_base.specs.Settings.{TheSetting}
use Rattle.adv_base.specs.Sizes.{shape_pages}
use Rattle.adv_base.proofs.Begins.{begins_cases, begins_trans}
use Rattle.adv_base.proofs.OfferBounds.{slot_table-some}
use Rattle.plan_model.specs.declared.task.Task.{Task}
use Rattle.plan_model.specs.BlockTask.{IsTaskOf}
use Rattle.plan_model.specs.Comparisons.{IsBetter, NoDearer}
use Rattle.plan_model.specs.Exchange.{ServesLike}
use Rattle.plan_model.specs.Orders.{interesting_orders}
use Rattle.plan_model.specs.Totals.{no_candidates, block_of}
use Rattle.plan_model.specs.Useful.{IsUseful}
use Rattle.plan_model.proofs.Decomposing.{core}
use Rattle.plan_model.proofs.Renting.{flag-of}
use Rattle.bip_model.specs.Laws.{NoneUseful}
use Rattle.bip_model.specs.StandsFor.{candidates_on}
use Rattle.bip_model.proofs.Spaces.{size-found}
use Rattle.bip_model.proofs.Fixing.{Has, image-of, mapped-at}
use Rattle.bip_model.proofs.Standing.{chosen-on, offers-split}
use Rattle.bip_model.proofs.Lists.{front-of, back-of}

-- ## What passes a test

flags-true : (has : ℕ → Bool) (a n i : ℕ) → slice_index_or (flags_from has a n) i false ≡ true → has (a + i) ≡ true
unfolding flags_from
flags-true has a zero i on = absurd (false≢true on)
flags-true has a (suc n) zero on = ap has (omega arith) ∙ on
flags-true has a (suc n) (suc i) on = ap has (omega arith) ∙ flags-true has (suc a) n i on

config_of-true : (has : ℕ → Bool) (b : ℕ) → has_candidate (config_of has) b ≡ true → has b ≡ true
unfolding config_of
config_of-true has zero on = absurd (false≢true on)
config_of-true has (suc i) on = ap has (omega arith) ∙ flags-true has 1 MOST_CANDIDATES i (sym (flag-of (record { on = flags_from has 1 MOST_CANDIDATES }) i) ∙ on)

-- ## Two lists in one

front-or-back : {X : Type 0} (xs ys : List X) (i : ℕ) (x : X) → slice_get (xs ++ ys) i ≡ Some x → (slice_get xs i ≡ Some x) ⊎ Has ys x
front-or-back [] ys i x found = inr (record { number = i; found = found })
front-or-back (z ∷ xs) ys zero x found = inl found
front-or-back (z ∷ xs) ys (suc i) x found = front-or-back xs ys i x found

-- ## Candidates and their numbers

pub filter-test : {X : Type 0} (test : X → Bool) (xs : List X) (x : X) → Has (filter test xs) x → Has xs x × (test x ≡ true)
filter-test test [] x h = absurd (let none = h.found in cc)
filter-test {X} test (y ∷ ys) x h = choose (test y) refl (filter-test test ys x) h
  where
    later : Has ys x → Has (y ∷ ys) x
    later g = record { number = suc g.number; found = g.found }

    choose : (b : Bool) → test y ≡ b → (Has (filter test ys) x → Has ys x × (test x ≡ true)) → Has (cond b (y ∷ filter test ys) (filter test ys)) x → Has (y ∷ ys) x × (test x ≡ true)
    choose false fails rest g = let r = rest g in (later r.0, r.1)
    choose true passes rest g = at' g.number g.found
      where
        at' : (i : ℕ) → slice_get (y ∷ filter test ys) i ≡ Some x → Has (y ∷ ys) x × (test x ≡ true)
        at' zero found = let same : y ≡ x = cc in (record { number = 0; found = found }, ap test (sym same) ∙ passes)
        at' (suc i) found = let r = rest (record { number = i; found = found }) in (later r.0, r.1)

-- an element with its number
pub record IsNumbered (xs : List IndexShape) (a : ℕ) (n : ℕ × IndexShape) : Type 0 where
  pub least : a ≤ n.0
  pub found : slice_get xs (n.0 - a) ≡ Some n.1

pub numbered-is : (a : ℕ) (xs : List IndexShape) (i : ℕ) (n : ℕ × IndexShape) → slice_get (enumerate_from a xs) i ≡ Some n → IsNumbered xs a n
numbered-is a [] i n found = absurd (cc)
numbered-is a (x ∷ xs) zero n found =
    let same : (a, x) ≡ n = cc in
    let number : a ≡ n.0 = ap (λ (m : ℕ × IndexShape). m.0) same in
    let none : n.0 - a ≡ 0 = omega (arith, number) in
    record { least = omega (arith, number); found = ap (slice_get (x ∷ xs)) none ∙ ap (λ (m : ℕ × IndexShape). Some m.1) same }
numbered-is a (x ∷ xs) (suc i) n found =
    let rest = numbered-is (a + 1) xs i n found in
    let next : n.0 - a ≡ suc (n.0 - (a + 1)) = omega (arith, rest.least) in
    record { least = omega (arith, rest.least); found = ap (slice_get (x ∷ xs)) next ∙ rest.found }

-- ## What a useless candidate offers, something that exists offers as well

-- an offer of the list gives the order for no more
record GivesAsWell (list : List Offer) (order : Order) (price : ℕ) : Type 0 where
  number : ℕ
  offer : Offer
  found : slice_get list number ≡ Some offer
  begins : BeginsWith offer.0 order
  less : offer.1 ≤ price

-- some does, or all that give it are dearer
record AllDearer (list : List Offer) (order : Order) (price : ℕ) : Type 0 where
  each : All (λ offer. BeginsWith offer.0 order → price < offer.1) list

gives-cases : (list : List Offer) (order : Order) (price : ℕ) → GivesAsWell list order price ⊎ AllDearer list order price
gives-cases [] order price = inr (record { each = λ k d within. absurd (omega (arith, within)) })
gives-cases (offer ∷ list) order price =
    elim (gives-cases list order price) [
      | inl found ↦ inl (record { number = suc found.number; offer = found.offer; found = found.found; begins = found.begins; less = found.less })
      | inr dearer ↦
          elim (begins_cases offer.0 order) [
            | inr other ↦ inr (record { each = first (λ begins. absurd (other begins)) dearer.each })
            | inl begins ↦
                elim (cases_lt price offer.1) [
                  | inl dear ↦ inr (record { each = first (λ b. dear) dearer.each })
                  | inr cheap ↦ inl (record { number = 0; offer = offer; found = refl; begins = begins; less = cheap })
                ]
          ]
    ]
  where
    first : (BeginsWith offer.0 order → price < offer.1) → All (λ o. BeginsWith o.0 order → price < o.1) list → All (λ o. BeginsWith o.0 order → price < o.1) (offer ∷ list)
    first here rest zero d within = here
    first here rest (suc k) d within = rest k d (omega (arith, within))

at-is : (table : OfferTable) (s i : ℕ) (offer : Offer) → slice_get (table s) i ≡ Some offer → (i < length (table s)) × (order_at table s i ≡ offer.0) × (price_at table s i ≡ offer.1)
at-is table s i offer found = (slice_get_within (table s) i offer found, ap (λ (o : Option Offer). option_map_or (λ x. x.0) o []) found, ap (λ (o : Option Offer). option_map_or (λ x. x.1) o 0) found)

-- an offer that serves all that another serves, at no higher price
better-of : (task : Task) (old new : OfferTable) (s i k : ℕ) (offer other : Offer) → slice_get (old s) i ≡ Some offer → slice_get (new s) k ≡ Some other →
    ServesLike task s offer.0 other.0 → other.1 ≤ offer.1 → IsBetter task old new s i k
better-of task old new s i k offer other old_found new_found serves less =
    let a = at-is old s i offer old_found in
    let b = at-is new s k other new_found in
    record {
      within = b.0;
      serves = λ m d within begins. subst (λ (r : Order). BeginsWith r (get_or (interesting_orders task s) m d)) (sym b.1)
          (serves m d within (subst (λ (r : Order). BeginsWith r (get_or (interesting_orders task s) m d)) a.1 begins));
      cheaper = omega (arith, a.2, b.2, less);
    }

pub filter-has : {X : Type 0} (test : X → Bool) (xs : List X) (i : ℕ) (x : X) → slice_get xs i ≡ Some x → test x ≡ true → Has (filter test xs) x
filter-has test [] i x found passes = absurd (cc)
filter-has {X} test (y ∷ ys) zero x found passes =
    let same : y ≡ x = cc in
    subst (λ (b : Bool). Has (cond b (y ∷ filter test ys) (filter test ys)) x) (sym (ap test same ∙ passes)) (record { number = 0; found = found })
filter-has {X} test (y ∷ ys) (suc i) x found passes = put (test y) (filter-has test ys i x found passes)
  where
    put : (b : Bool) → Has (filter test ys) x → Has (cond b (y ∷ filter test ys) (filter test ys)) x
    put true h = record { number = suc h.number; found = h.found }
    put false h = h

-- a block of one of the setting's statements
pub record IsBlockOf (setting : TheSetting) (block : Block) : Type 0 where
  pub number : ℕ
  pub statement : Statement
  pub found : slice_get setting.statements number ≡ Some statement
  pub is : block_of statement.work ≡ Some block

-- an open candidate that offers an order for less than all that exists is useful
cheaper-useful : (setting : TheSetting) (budget : ℕ) (node : nodes.Node) (block : Block) (task : Task) (s : ℕ) (slot : Slot) (table : Table) (n : ℕ × IndexShape) (i : ℕ) (best : Order) →
    IsBlockOf setting block → IsTaskOf setting.cat block task → slice_get block.slots s ≡ Some slot → table_at setting.cat slot.table ≡ Some table →
    slice_get (enumerate_from 1 setting.shapes) i ≡ Some n → (n.1.table == slot.table) ≡ true → is_open setting.cat setting.shapes budget node n.0 ≡ true →
    list_any (is_same_order best) (interesting_orders task s) ≡ true → BeginsWith (index_offer setting.cat block s slot table n.1).0 best →
    AllDearer (offers setting.cat block setting.shapes no_candidates s) best (index_offer setting.cat block s slot table n.1).1 → IsUseful setting budget n.0
cheaper-useful setting budget node block task s slot table n i best of' task_is slot_found table_found found on_table open' among gives dearer =
    let numbered = numbered-is 1 setting.shapes i n found in
    let fits = and_parts (is_free node n.0) (nat_le (config_pages setting.cat setting.shapes node.inside + candidate_pages setting.cat setting.shapes n.0) budget) open' in
    let pages : candidate_pages setting.cat setting.shapes n.0 ≡ shape_pages setting.cat n.1 = size-found setting.cat setting.shapes n.0 n.1 numbered.found in
    let room : config_pages setting.cat setting.shapes node.inside + candidate_pages setting.cat setting.shapes n.0 ≤ budget = le-of (config_pages setting.cat setting.shapes node.inside + candidate_pages setting.cat setting.shapes n.0) budget fits.1 in
    record {
      some = numbered.least;
      shape = n.1;
      found = numbered.found;
      fits = omega (arith, room, pages);
      number = of'.number;
      statement = of'.statement;
      statement_found = of'.found;
      block = block;
      block_is = of'.is;
      slot = s;
      cheaper =
          record {
            slot = slot;
            slot_found = slot_found;
            on_table = sym (eqb-true n.1.table slot.table on_table);
            table = table;
            table_found = table_found;
            task = task;
            task_is = task_is;
            order = best;
            interesting = among;
            gives = gives;
            below = dearer.each;
          };
    }
  where
    le-of : (a b : ℕ) → nat_le a b ≡ true → a ≤ b
    le-of a b e = grind (arith, nat_tests)

-- what each offer of the available candidates serves, an offer of those that are in serves for no more
pub no-dearer : (setting : TheSetting) (budget : ℕ) (node : nodes.Node) (block : Block) (task : Task) → NamesBlock setting.cat block → IsBlockOf setting block → IsTaskOf setting.cat block task → NoneUseful setting budget node →
    NoDearer task (offers setting.cat block setting.shapes (available setting.cat setting.shapes budget node)) (offers setting.cat block setting.shapes node.inside)
no-dearer setting budget node block task named of' task_is none s number below within =
    let cat = setting.cat in
    let shapes = setting.shapes in
    let many : Config = available cat shapes budget node in
    let old : OfferTable = offers cat block shapes many in
    let new : OfferTable = offers cat block shapes node.inside in
    let plain : List Offer = offers cat block shapes no_candidates s in
    let inside_block : s < length block.slots = omega (arith, below, task_is.slots_are) in
    let source = slot_table-some cat block named s inside_block in
    elim (slice_get_cases block.slots s).1 [
      | inr past ↦ absurd (omega (arith, past.0, inside_block))
      | inl there ↦
          let slot : Slot = there.0 in
          let table : Table = source.0 in
          let table_found : table_at cat slot.table ≡ Some table = sym (ap (option_and_then (λ (x : Slot). table_at cat x.table)) there.2) ∙ source.1 in
          let read : ℕ × IndexShape → Offer = λ n. index_offer cat block s slot table n.1 in
          let old_is : old s ≡ plain ++ map read (numbered_on shapes many slot.table) = offers-split cat block shapes many s slot table there.2 table_found in
          let new_is : new s ≡ plain ++ map read (numbered_on shapes node.inside slot.table) = offers-split cat block shapes node.inside s slot table there.2 table_found in
          elim (slice_get_cases (old s) number).1 [
            | inr past ↦ absurd (omega (arith, past.0, within))
            | inl at' ↦
                let offer : Offer = at'.0 in
                elim (front-or-back plain (map read (numbered_on shapes many slot.table)) number offer (subst (λ (os : List Offer). slice_get os number ≡ Some offer) old_is at'.2)) [
                  | inl front ↦ (
                    number,
                    better-of task old new s number number offer offer at'.2
                        (subst (λ (os : List Offer). slice_get os number ≡ Some offer) (sym new_is) (front-of plain (map read (numbered_on shapes node.inside slot.table)) number offer front))
                        (λ k d w begins. begins) (omega arith),
                  )
                  | inr back ↦
                      let image = image-of read (numbered_on shapes many slot.table) back.number offer back.found in
                      let n : ℕ × IndexShape = image.element in
                      let picked = filter-test (λ (m : ℕ × IndexShape). has_candidate many m.0) (candidates_on shapes slot.table) n (subst (λ (ns : List (ℕ × IndexShape)). Has ns n) (sym (chosen-on shapes many slot.table)) image.has) in
                      let listed = filter-test (λ (m : ℕ × IndexShape). m.1.table == slot.table) (enumerate_from 1 shapes) n picked.0 in
                      elim (cases_Bool (has_candidate node.inside n.0)) [
                        | inl kept ↦
                            let own : Has (numbered_on shapes node.inside slot.table) n =
                            subst (λ (ns : List (ℕ × IndexShape)). Has ns n) (chosen-on shapes node.inside slot.table)
                            (filter-has (λ (m : ℕ × IndexShape). has_candidate node.inside m.0) (candidates_on shapes slot.table) picked.0.number n picked.0.found kept) in
                            let placed : slice_get (map read (numbered_on shapes node.inside slot.table)) own.number ≡ Some offer = mapped-at read (numbered_on shapes node.inside slot.table) own.number n own.found ∙ ap Some image.is in (
                              length plain + own.number,
                              better-of task old new s number (length plain + own.number) offer offer at'.2
                                  (subst (λ (os : List Offer). slice_get os (length plain + own.number) ≡ Some offer) (sym new_is) (back-of plain (map read (numbered_on shapes node.inside slot.table)) own.number offer placed))
                                  (λ k d w begins. begins) (omega arith),
                            )
                        | inr lacks ↦
                            let best = core task s offer.0 in
                            let is_there = config_of-true (is_available cat shapes budget node) n.0 picked.1 in
                            let open' : is_open cat shapes budget node n.0 ≡ true = elim (or_cases (has_candidate node.inside n.0) (is_open cat shapes budget node n.0) is_there) [
                              | inl in' ↦ absurd (false≢true (sym lacks ∙ in'))
                              | inr is_so ↦ is_so
                            ] in
                            elim (gives-cases plain best.0 offer.1) [
                              | inl gives ↦ (
                                gives.number,
                                better-of task old new s number gives.number offer gives.offer at'.2
                                    (subst (λ (os : List Offer). slice_get os gives.number ≡ Some gives.offer) (sym new_is) (front-of plain (map read (numbered_on shapes node.inside slot.table)) gives.number gives.offer gives.found))
                                    (λ k d w begins. begins_trans gives.offer.0 best.0 (get_or (interesting_orders task s) k d) gives.begins (best.1.serves k d w begins)) gives.less,
                              )
                              | inr dearer ↦
                                  absurd (none n.0 open'
                                  (cheaper-useful setting budget node block task s slot table n listed.0.number best.0 of' task_is there.2 table_found listed.0.found listed.1 open' best.1.among
                                  (subst (λ (o : Offer). BeginsWith o.0 best.0) (sym image.is) best.1.begins)
                                  (subst (λ (o : Offer). AllDearer plain best.0 o.1) (sym image.is) dearer)))
                            ]
                      ]
                ]
          ]
    ]
