-- Costs that are kept where other candidates become available.
use Rattle.std.proofs.Common.{◌≡◌, ◌∙◌, inl, inr, ℕ, zero, suc, ◌+◌, ◌*◌, ◌<◌, ◌≤◌, Bool, true, false, List, [], ◌∷◌, ◌++◌, length, set, map, filter, take, drop, refl, sym, ap, subst, arith}
use Rattle.std.specs.Prelude.{◌≢◌, Option, Some, None, slice_get, slice_index_or, if◌then◌else◌, ◌==◌}
use Rattle.std.specs.List.{enumerate_from}
use Rattle.std.specs.Option.{ForSome}
use Rattle.std.proofs.lemmas.Bool.{cases_lt, eqb-true, false≢true}
use Rattle.std.proofs.lemmas.List.{get_or-set_same, get_or-set_other, append-nil, drop_all, take_all}
use Rattle.std.proofs.lemmas.Option.{slice_get_within, same_Some, none-some}
use Rattle.std.proofs.Math.Path.{fun_ext}
use Rattle.adv_base.specs.declared.catalogue.Catalogue.{Catalogue}
use Rattle.adv_base.specs.declared.catalogue.index.IndexShape.{IndexShape}
use Rattle.adv_base.specs.declared.catalogue.table.Table.{Table}
use Rattle.adv_base.specs.declared.setting.Config.{Config}
use Rattle.adv_base.specs.declared.workload.Statement.{Statement}
use Rattle.adv_base.specs.declared.workload.Work.{Work}
use Rattle.adv_base.specs.declared.workload.Work.TheVariants.{Select, Update, Delete, Insert}
use Rattle.adv_base.specs.declared.workload.block.Block.{Block}
use Rattle.adv_base.specs.declared.workload.parts.Slot.{Slot}
use Rattle.adv_base.specs.Configs.{has_candidate}
use Rattle.adv_base.specs.Lookups.{table_at}
use Rattle.adv_base.specs.Offers.{OfferTable, Heap, Existing, candidate_path, numbered_on, charged_path_offer, charged_offers, charged_offers_of, charged_offers_on}
use Rattle.adv_base.specs.Settings.{TheSetting}
use Rattle.bip_model.proofs.Standing.{chosen-on}
use Rattle.plan_model.specs.Lagrangian.{IsRentedCost, IsRentedPlan, AreRentedPlans}
use Rattle.plan_model.specs.Least.{Least}
use Rattle.plan_model.specs.Totals.{block_of, weighted_sum}
use Rattle.gap_checker.specs.inner.Changes.{is_marked, AgreeApart, NoneMarked, IsUntouched}
use Rattle.gap_checker.specs.declared.changes.Changes.{Changes}
use Rattle.gap_checker.specs.declared.memo.Last.{Last}
use Rattle.gap_checker.specs.inner.Memos.{AreCostsOf, IsLast, AreRenewed}

-- ## The candidates on a table

both-kept : (b : Bool) (from to : ℕ → Bool) (n : ℕ × IndexShape) (ns : List (ℕ × IndexShape)) → (b ≡ true → from n.0 ≡ to n.0) →
    filter (λ n. from n.0) ns ≡ filter (λ n. to n.0) ns → filter (λ n. from n.0) (if b then n ∷ ns else ns) ≡ filter (λ n. to n.0) (if b then n ∷ ns else ns)
both-kept true from to n ns same rest =
    ap (λ (b : Bool). if b then n ∷ filter (λ n. from n.0) ns else filter (λ n. from n.0) ns) (same refl)
    ∙ ap (λ (ms : List (ℕ × IndexShape)). if to n.0 then n ∷ ms else ms) rest
both-kept false from to n ns same rest = rest

alike-on : (from to : ℕ → Bool) (t a : ℕ) (shapes : List IndexShape) → ((k : ℕ) (shape : IndexShape) → slice_get shapes k ≡ Some shape → (shape.table == t) ≡ true → from (a + k) ≡ to (a + k)) →
    filter (λ n. from n.0) (filter (λ n. n.1.table == t) (enumerate_from a shapes)) ≡ filter (λ n. to n.0) (filter (λ n. n.1.table == t) (enumerate_from a shapes))
alike-on from to t a [] alike = refl
alike-on from to t a (shape ∷ shapes) alike =
    both-kept (shape.table == t) from to (a, shape) (filter (λ n. n.1.table == t) (enumerate_from (a + 1) shapes)) (λ on. ap from (omega arith) ∙ alike 0 shape refl on ∙ ap to (omega arith))
    (alike-on from to t (a + 1) shapes (λ k other there on. ap from (omega arith) ∙ alike (suc k) other there on ∙ ap to (omega arith)))

same-numbered : (shapes : List IndexShape) (from to : Config) (tables : List Bool) (t : ℕ) → AgreeApart tables from to shapes → is_marked tables t ≡ false → numbered_on shapes from t ≡ numbered_on shapes to t
same-numbered shapes from to tables t agree apart =
    sym (chosen-on shapes from t)
    ∙ alike-on (has_candidate from) (has_candidate to) t 1 shapes (λ k shape there on. ap (has_candidate from) (omega arith) ∙ agree k shape there (ap (is_marked tables) (eqb-true shape.table t on) ∙ apart) ∙ ap (has_candidate to) (omega arith))
    ∙ chosen-on shapes to t

-- ## Offers

same-on : (charge : ℕ → ℕ → ℕ) (cat : Catalogue) (block : Block) (shapes : List IndexShape) (from to : Config) (s : ℕ) (slot : Slot) (table : Option Table) → numbered_on shapes from slot.table ≡ numbered_on shapes to slot.table →
    charged_offers_on charge cat block shapes from s slot table ≡ charged_offers_on charge cat block shapes to s slot table
same-on charge cat block shapes from to s slot None same = refl
same-on charge cat block shapes from to s slot (Some table) same =
    ap (λ (ns : List (ℕ × IndexShape)). map (charged_path_offer charge cat block s slot table) (Heap ∷ (map Existing table.indexes ++ map candidate_path ns))) same

same-of : (charge : ℕ → ℕ → ℕ) (cat : Catalogue) (block : Block) (shapes : List IndexShape) (from to : Config) (s : ℕ) (slot : Option Slot) →
    ((own : Slot) → slot ≡ Some own → numbered_on shapes from own.table ≡ numbered_on shapes to own.table) → charged_offers_of charge cat block shapes from s slot ≡ charged_offers_of charge cat block shapes to s slot
same-of charge cat block shapes from to s None same = refl
same-of charge cat block shapes from to s (Some slot) same = same-on charge cat block shapes from to s slot (table_at cat slot.table) (same slot refl)

-- a block none of whose slots is on a table where candidates changed has the same offers
same-charged : (charge : ℕ → ℕ → ℕ) (cat : Catalogue) (block : Block) (shapes : List IndexShape) (from to : Config) (tables : List Bool) → AgreeApart tables from to shapes → NoneMarked tables block.slots →
    charged_offers charge cat block shapes from ≡ charged_offers charge cat block shapes to
unfolding charged_offers
same-charged charge cat block shapes from to tables agree none =
    fun_ext (λ (s : ℕ). same-of charge cat block shapes from to s (slice_get block.slots s) (λ slot there. same-numbered shapes from to tables slot.table agree (none s slot there)))

-- ## Costs

same-cost : (setting : TheSetting) (from to : Config) (rent : ℕ → ℕ → ℕ) (block : Block) (cost : ℕ) (tables : List Bool) → AgreeApart tables from to setting.shapes → NoneMarked tables block.slots →
    IsRentedCost setting from rent block cost → IsRentedCost setting to rent block cost
same-cost setting from to rent block cost tables agree none is =
    record {
      task = is.task;
      task_is = is.task_is;
      least = subst (λ (table : OfferTable). Least is.task table cost) (same-charged rent setting.cat block setting.shapes from to tables agree none) is.least;
    }

-- and its statement the same cost
same-plan : (setting : TheSetting) (from to : Config) (rent : ℕ → ℕ → ℕ) (work : Work) (cost : ℕ) (tables : List Bool) → AgreeApart tables from to setting.shapes → ((block : Block) → block_of work ≡ Some block → NoneMarked tables block.slots) →
    IsRentedPlan setting from rent work cost → IsRentedPlan setting to rent work cost
same-plan setting from to rent (Select block) cost tables agree none is = same-cost setting from to rent block cost tables agree (none block refl) is
same-plan setting from to rent (Update block columns) cost tables agree none is = same-cost setting from to rent block cost tables agree (none block refl) is
same-plan setting from to rent (Delete block) cost tables agree none is = same-cost setting from to rent block cost tables agree (none block refl) is
same-plan setting from to rent (Insert table rows) cost tables agree none is = is

-- ## Lists of costs

each-rented : (setting : TheSetting) (config : Config) (rent : ℕ → ℕ → ℕ → ℕ) (q : ℕ) (statements : List Statement) (costs : List ℕ) → length costs ≡ length statements →
    ((k : ℕ) (statement : Statement) → slice_get statements k ≡ Some statement → IsRentedPlan setting config (rent (q + k)) statement.work (slice_index_or costs k 0)) → AreRentedPlans setting config rent q statements costs
each-rented setting config rent q [] [] count are = tt
each-rented setting config rent q [] (c ∷ costs) count are = absurd (omega (arith, count))
each-rented setting config rent q (s ∷ statements) [] count are = absurd (omega (arith, count))
each-rented setting config rent q (s ∷ statements) (c ∷ costs) count are =
    let here : q + 0 ≡ q = omega arith in (
      subst (λ (p : ℕ). IsRentedPlan setting config (rent p) s.work c) here (are 0 s refl),
      each-rented setting config rent (suc q) statements costs (omega (arith, count))
          (λ k statement there.
          let next : q + suc k ≡ suc q + k = omega arith in
          subst (λ (p : ℕ). IsRentedPlan setting config (rent p) statement.work (slice_index_or costs k 0)) next (are (suc k) statement there)),
    )

pub all-rented : (setting : TheSetting) (config : Config) (rent : ℕ → ℕ → ℕ → ℕ) (costs : List ℕ) → length costs ≡ length setting.statements → AreCostsOf setting config rent costs → AreRentedPlans setting config rent 1 setting.statements costs
all-rented setting config rent costs count are =
    each-rented setting config rent 1 setting.statements costs count
    (λ k statement there. let next : suc k ≡ 1 + k = omega arith in subst (λ (p : ℕ). IsRentedPlan setting config (rent p) statement.work (slice_index_or costs k 0)) next (are k statement there))

-- ## Costs that are renewed

-- the costs that are kept are right where nothing changed
pub renewed-start : (setting : TheSetting) (rent : ℕ → ℕ → ℕ → ℕ) (last : Last) (changes : Changes) (to : Config) → IsLast setting rent last →
    ForSome last.config (λ config. AgreeApart changes.tables config to setting.shapes) → (last.config ≡ None → changes.all ≡ true) → AreRenewed setting to rent changes 0 last.costs.items
renewed-start setting rent last changes to is agree none =
    record {
      done = λ k statement below there. absurd (omega (arith, below));
      left = λ k statement from there untouched. known last.config refl k statement there untouched;
    }
  where
    known : (o : Option Config) → last.config ≡ o → (k : ℕ) (statement : Statement) → slice_get setting.statements k ≡ Some statement → IsUntouched changes statement.work →
        IsRentedPlan setting to (rent (suc k)) statement.work (slice_index_or last.costs.items k 0)
    known None here k statement there untouched = absurd (false≢true (sym untouched.known ∙ none here))
    known (Some config) here k statement there untouched =
        same-plan setting config to (rent (suc k)) statement.work (slice_index_or last.costs.items k 0) changes.tables (agree config here) untouched.apart
        (is.costs_are config here k statement there)

pub renewed-skip : (setting : TheSetting) (config : Config) (rent : ℕ → ℕ → ℕ → ℕ) (changes : Changes) (i : ℕ) (costs : List ℕ) (statement : Statement) → slice_get setting.statements i ≡ Some statement → IsUntouched changes statement.work →
    AreRenewed setting config rent changes i costs → AreRenewed setting config rent changes (i + 1) costs
renewed-skip setting config rent changes i costs statement there untouched are =
    record {
      done = λ k other below found.
          elim (cases_lt k i) [
            | inl less ↦ are.done k other less found
            | inr past ↦
                let same : i ≡ k = omega (arith, below, past) in
                let here : statement ≡ other = same_Some statement other (sym there ∙ ap (slice_get setting.statements) same ∙ found) in
                are.left k other (omega (arith, past)) found (subst (λ (s : Statement). IsUntouched changes s.work) here untouched)
          ];
      left = λ k other from found apart. are.left k other (omega (arith, from)) found apart;
    }

pub renewed-set : (setting : TheSetting) (config : Config) (rent : ℕ → ℕ → ℕ → ℕ) (changes : Changes) (i cost : ℕ) (costs : List ℕ) (statement : Statement) → slice_get setting.statements i ≡ Some statement → i < length costs →
    IsRentedPlan setting config (rent (i + 1)) statement.work cost → AreRenewed setting config rent changes i costs → AreRenewed setting config rent changes (i + 1) (set costs i cost)
renewed-set setting config rent changes i cost costs statement there within one are =
    let kept : (k : ℕ) → k ≢ i → slice_index_or (set costs i cost) k 0 ≡ slice_index_or costs k 0 = λ k other. get_or-set_other costs i k cost 0 other in
    record {
      done = λ k other below found.
          elim (cases_lt k i) [
            | inl less ↦ subst (IsRentedPlan setting config (rent (suc k)) other.work) (sym (kept k (λ same. omega (arith, same, less)))) (are.done k other less found)
            | inr past ↦
                let same : i ≡ k = omega (arith, below, past) in
                let here : statement ≡ other = same_Some statement other (sym there ∙ ap (slice_get setting.statements) same ∙ found) in
                let number : i + 1 ≡ suc k = omega (arith, same) in
                let value : cost ≡ slice_index_or (set costs i cost) k 0 = sym (get_or-set_same costs i cost 0 within) ∙ ap (λ (n : ℕ). slice_index_or (set costs i cost) n 0) same in
                subst (IsRentedPlan setting config (rent (suc k)) other.work) value
                (subst (λ (n : ℕ). IsRentedPlan setting config (rent n) other.work cost) number (subst (λ (s : Statement). IsRentedPlan setting config (rent (i + 1)) s.work cost) here one))
          ];
      left = λ k other from found apart.
          subst (IsRentedPlan setting config (rent (suc k)) other.work) (sym (kept k (λ same. omega (arith, same, from)))) (are.left k other (omega (arith, from)) found apart);
    }

pub renewed-end : (setting : TheSetting) (config : Config) (rent : ℕ → ℕ → ℕ → ℕ) (changes : Changes) (i : ℕ) (costs : List ℕ) → length setting.statements ≤ i → AreRenewed setting config rent changes i costs → AreCostsOf setting config rent costs
renewed-end setting config rent changes i costs end are =
    λ k statement there. let within : k < length setting.statements = slice_get_within setting.statements k statement there in are.done k statement (omega (arith, within, end)) there

-- ## Sums

nothing-more : (n : ℕ) → n + 0 ≡ 0 + n
nothing-more n = omega arith

moved-right : (a b c : ℕ) → a + (b + c) ≡ (a + b) + c
moved-right a b c = omega arith

sum-suc : (statements : List Statement) (costs : List ℕ) (i : ℕ) (statement : Statement) (cost : ℕ) → slice_get statements i ≡ Some statement → slice_get costs i ≡ Some cost →
    weighted_sum (take (suc i) statements) (take (suc i) costs) ≡ weighted_sum (take i statements) (take i costs) + statement.weight * cost
sum-suc [] costs i statement cost there here = absurd (none-some statement there)
sum-suc (s ∷ statements) [] i statement cost there here = absurd (none-some cost here)
sum-suc (s ∷ statements) (c ∷ costs) zero statement cost there here =
    nothing-more (s.weight * c) ∙ ap (λ (x : Statement). 0 + x.weight * c) (same_Some s statement there) ∙ ap (λ (n : ℕ). 0 + statement.weight * n) (same_Some c cost here)
sum-suc (s ∷ statements) (c ∷ costs) (suc i) statement cost there here =
    ap (λ (n : ℕ). s.weight * c + n) (sum-suc statements costs i statement cost there here)
    ∙ moved-right (s.weight * c) (weighted_sum (take i statements) (take i costs)) (statement.weight * cost)

-- one statement more
pub sum-more : (statements : List Statement) (costs : List ℕ) (i : ℕ) (statement : Statement) (cost : ℕ) → slice_get statements i ≡ Some statement → slice_get costs i ≡ Some cost →
    weighted_sum (take (i + 1) statements) (take (i + 1) costs) ≡ weighted_sum (take i statements) (take i costs) + statement.weight * cost
sum-more statements costs i statement cost there here = let next : i + 1 ≡ suc i = omega arith in rw next (sum-suc statements costs i statement cost there here)

-- ## What is written back

-- a list of the same length over the old one
pub written : {X : Type 0} (old new : List X) (n : ℕ) → n ≡ length old → length new ≡ length old → take n (new ++ drop (length new) old) ≡ new
written old new n full long =
    ap (λ (xs : List _). take n (new ++ xs)) (drop_all (length new) old (omega (arith, long))) ∙ ap (take n) (append-nil new) ∙ take_all n new (omega (arith, full, long))
