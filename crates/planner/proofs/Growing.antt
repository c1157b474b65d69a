-- Fronts that grow.
use Rattle.std.proofs.Common.{◌≡◌, ℕ, zero, suc, ◌+◌, ◌^◌, ◌<◌, inl, inr, Bool, true, false, cond, List, [], ◌∷◌, ◌++◌, length, Option, Some, None, slice_get, slice_index_or, refl, sym, ap, ◌∙◌, subst, arith}
use Rattle.std.proofs.Math.Logic.{∥∥₁_map}
use Rattle.std.specs.List.{list_any}
use Rattle.std.proofs.lemmas.Bool.{cases_lt, or_left, or_right, or_cases, and_parts, and_from, eqb-true, eq-eqb, false≢true}
use Rattle.std.proofs.lemmas.List.{get_or_append_left, get_or_push, length_push}
use Rattle.std.proofs.lemmas.List.Elements.{All-get_or}
use Rattle.std.proofs.lemmas.Option.{slice_get_within, same_Some, slice_get-get_or}
use Rattle.adv_base.specs.Items.{Order, is_same_item}
use Rattle.adv_base.specs.declared.workload.parts.Item.{Item}
use Rattle.adv_base.proofs.ItemLaws.{same_item, item_same}
use Rattle.plan_model.specs.declared.edge.TaskEdge.{TaskEdge}
use Rattle.plan_model.specs.declared.task.Task.{Task}
use Rattle.plan_model.specs.Limits.Tasks.{EdgeLimits}
use Rattle.plan_model.specs.Orders.{need_order}
use Rattle.planner.specs.declared.front.Front.{Front}
use Rattle.planner.specs.declared.front.Front.TheVariants.{Any, Listed, Need}
use Rattle.planner.specs.declared.front.Link.{Link}
use Rattle.planner.specs.Fronts.{asked, front_order, first_item, longer_front, is_need, needs_item, no_link, link_at, turned, listed, Ties, Joins, IsLink, AreHeadsApart, AreHeads, AreLinks, AreNeeded, AreNeeds}
use Rattle.planner.specs.inner.Growing.{need_front, is_alike, is_same_link, turned_link, IsGrowing, AreFronts, IsAdded, IsKeeping}

pub growing_then : (x y z : List Front) → IsGrowing x y → IsGrowing y z → IsGrowing x z
growing_then x y z s t =
    let a = s.longer in
    let b = t.longer in
    record { longer = omega arith; keeps = λ k h. t.keeps k (omega arith) ∙ s.keeps k h }

pub added_push : (x : List Front) (y : Front) → IsAdded x (x ++ y ∷ []) y
added_push x y =
    let more : length (x ++ y ∷ []) ≡ length x + 1 = length_push x y in
    record { each = λ f past within. get_or_push x y Any f (omega arith) }

-- one more need, for which none of the fronts asks
pub fronts_push : (x : List Front) (item : Item) → AreFronts x → ((i : ℕ) → i < length x → ¬ (slice_index_or x i Any ≡ Need item)) → AreFronts (x ++ Need item ∷ [])
fronts_push x item f missing =
    let y : List Front = x ++ Need item ∷ [] in
    let some = f.some in
    let more : length y ≡ length x + 1 = length_push x (Need item) in
    let kept : (k : ℕ) → k < length x → slice_index_or y k Any ≡ slice_index_or x k Any = λ k h. get_or_append_left x (Need item ∷ []) Any k h in
    let last : (k : ℕ) → length x ≡ k → slice_index_or y k Any ≡ Need item = λ k h. get_or_push x (Need item) Any k h in
    record {
      some = omega arith;
      nothing = get_or_append_left x (Need item ∷ []) Listed 0 (omega arith) ∙ f.nothing;
      all = kept 1 (omega arith) ∙ f.all;
      needs = λ k from within.
          elim (cases_lt k (length x)) [
            | inl less ↦ let h = f.needs k from less in (h.0, kept k less ∙ h.1)
            | inr past ↦ (item, last k (omega arith))
          ];
      once = λ i k from less within same.
          elim (cases_lt k (length x)) [
            | inl below ↦ f.once i k from less below (sym (kept i (omega arith)) ∙ same ∙ kept k below)
            | inr past ↦ missing i (omega arith) (sym (kept i (omega arith)) ∙ same ∙ last k (omega arith))
          ];
    }

pub need_asks : (list : Order) (need : Option Item) → front_order list (need_front need) ≡ need_order need
need_asks list None = refl
need_asks list (Some item) = refl

-- the need of a front that asks for an item
need_is : (need : Option Item) (item : Item) → need_front need ≡ Need item → need ≡ Some item
need_is None item is = absurd (cc)
need_is (Some other) item is = cc

needed_step : (edges : List TaskEdge) (x y : List Front) (need : Option Item) → IsGrowing x y → IsAdded x y (need_front need) → ((item : Item) → need ≡ Some item → list_any (needs_item item) edges ≡ true) → AreNeeded edges x → AreNeeded edges y
needed_step edges x y need g a needs n =
    record {
      each = λ f item within is.
          elim (cases_lt f (length x)) [
            | inl less ↦ n.each f item less (sym (g.keeps f less) ∙ is)
            | inr past ↦ needs item (need_is need item (sym (a.each f (omega arith) within) ∙ is))
          ];
    }

any_edge : (p : TaskEdge → Bool) (edges : List TaskEdge) (k : ℕ) (edge : TaskEdge) → slice_get edges k ≡ Some edge → p edge ≡ true → list_any p edges ≡ true
any_edge p [] k edge found passes = cc
any_edge p (x ∷ xs) zero edge found passes =
    let e : x ≡ edge = cc in or_left (p x) (list_any p xs) (ap p e ∙ passes)
any_edge p (x ∷ xs) (suc k) edge found passes = or_right (p x) (list_any p xs) (any_edge p xs k edge found passes)

need_passes : (need : Option Item) (item : Item) → need ≡ Some item → is_need item need ≡ true
need_passes need item is = ap (is_need item) is ∙ item_same item

-- after the fronts of an edge's needs
pub needed_more : (edges : List TaskEdge) (x y z : List Front) (k : ℕ) (edge : TaskEdge) → slice_get edges k ≡ Some edge → IsGrowing x y → IsGrowing y z → IsAdded x y (need_front edge.left_need) → IsAdded y z (need_front edge.right_need) → AreNeeded edges x → AreNeeded edges z
needed_more edges x y z k edge found g h a b n =
    let left : AreNeeded edges y = needed_step edges x y edge.left_need g a (λ item is. any_edge (needs_item item) edges k edge found (or_left (is_need item edge.left_need) (is_need item edge.right_need) (need_passes edge.left_need item is))) n in
    needed_step edges y z edge.right_need h b (λ item is. any_edge (needs_item item) edges k edge found (or_right (is_need item edge.left_need) (is_need item edge.right_need) (need_passes edge.right_need item is))) left

ties_grow : (list : Order) (x y : List Front) (edge : TaskEdge) (link : Link) → IsGrowing x y → Ties list x edge link → Ties list y edge link
ties_grow list x y edge link g t =
    let longer = g.longer in
    let left = t.left_in in
    let right = t.right_in in
    record {
      left_slot = t.left_slot;
      right_slot = t.right_slot;
      left_in = omega arith;
      right_in = omega arith;
      left_asks = ap (front_order list) (g.keeps link.left_front left) ∙ t.left_asks;
      right_asks = ap (front_order list) (g.keeps link.right_front right) ∙ t.right_asks;
    }

link_grows : (list : Order) (x y : List Front) (edges : List TaskEdge) (link : Link) → IsGrowing x y → IsLink list x edges link → IsLink list y edges link
link_grows list x y edges link g l =
    record { number = l.number; tied = λ edge found. ties_grow list x y edge link g (l.tied edge found) }

joins_grow : (list : Order) (x y : List Front) (edge : TaskEdge) (link : Link) → IsGrowing x y → Joins list x edge link → Joins list y edge link
joins_grow list x y edge link g (inl t) = inl (ties_grow list x y edge link g t)
joins_grow list x y edge link g (inr t) = inr (ties_grow list x y (turned edge) link g t)

turned_ties : (list : Order) (fronts : List Front) (edge : TaskEdge) (x : Link) → Ties list fronts edge x → Ties list fronts (turned edge) (turned_link x)
turned_ties list fronts edge x t =
    record {
      left_slot = t.right_slot;
      right_slot = t.left_slot;
      left_in = t.right_in;
      right_in = t.left_in;
      left_asks = t.right_asks;
      right_asks = t.left_asks;
    }

same_ties : (list : Order) (fronts : List Front) (edge : TaskEdge) (x y : Link) → is_same_link x y ≡ true → Ties list fronts edge x → Ties list fronts edge y
same_ties list fronts edge x y h t =
    let p = and_parts _ _ h in
    let q = and_parts _ _ p.0 in
    let r = and_parts _ _ q.0 in
    let left : x.left ≡ y.left = eqb-true x.left y.left r.0 in
    let right : x.right ≡ y.right = eqb-true x.right y.right r.1 in
    let left_front : x.left_front ≡ y.left_front = eqb-true x.left_front y.left_front q.1 in
    let right_front : x.right_front ≡ y.right_front = eqb-true x.right_front y.right_front p.1 in
    record {
      left_slot = t.left_slot ∙ left;
      right_slot = t.right_slot ∙ right;
      left_in = subst (λ f. f < length fronts) left_front t.left_in;
      right_in = subst (λ f. f < length fronts) right_front t.right_in;
      left_asks = ap (asked list fronts) (sym left_front) ∙ t.left_asks;
      right_asks = ap (asked list fronts) (sym right_front) ∙ t.right_asks;
    }

-- links alike tie the same edges
alike_joins : (list : Order) (fronts : List Front) (edge : TaskEdge) (x y : Link) → is_alike x y ≡ true → Ties list fronts edge x → Joins list fronts edge y
alike_joins list fronts edge x y h t =
    elim (or_cases (is_same_link x y) (is_same_link (turned_link x) y) h) [
      | inl same ↦ inl (same_ties list fronts edge x y same t)
      | inr other ↦ inr (same_ties list fronts (turned edge) (turned_link x) y other (turned_ties list fronts edge x t))
    ]

same_self : (x : Link) → is_same_link x x ≡ true
same_self x =
    and_from _ _ (and_from _ _ (and_from _ _ (eq-eqb x.left x.left refl) (eq-eqb x.right x.right refl)) (eq-eqb x.left_front x.left_front refl)) (eq-eqb x.right_front x.right_front refl)

alike_self : (x : Link) → is_alike x x ≡ true
alike_self x = or_left (is_same_link x x) (is_same_link (turned_link x) x) (same_self x)

alike_place : (x : Link) (links : List Link) → list_any (is_alike x) links ≡ true → (i : ℕ) × (i < length links) × (is_alike x (link_at links i) ≡ true)
alike_place x [] h = absurd (false≢true h)
alike_place x (y ∷ ys) h =
    elim (or_cases (is_alike x y) (list_any (is_alike x) ys) h) [
      | inl here ↦ (0, omega arith, here)
      | inr later ↦ let w = alike_place x ys later in (suc w.0, omega (arith, w.1), w.2)
    ]

pub keeping_none : (links : List Link) (link : Link) → list_any (is_alike link) links ≡ true → IsKeeping links links link
keeping_none links link h =
    let w = alike_place link links h in
    record {
      longer = omega arith;
      keeps = λ i within. refl;
      added = λ i past within. absurd (omega arith);
      place = w.0;
      place_in = w.1;
      alike = w.2;
    }

pub keeping_push : (links : List Link) (link : Link) → IsKeeping links (links ++ link ∷ []) link
keeping_push links link =
    let more : length (links ++ link ∷ []) ≡ length links + 1 = length_push links link in
    let last : link_at (links ++ link ∷ []) (length links) ≡ link = get_or_push links link no_link (length links) refl in
    record {
      longer = omega arith;
      keeps = λ i within. get_or_append_left links (link ∷ []) no_link i within;
      added = λ i past within. get_or_push links link no_link i (omega arith);
      place = length links;
      place_in = omega arith;
      alike = ap (is_alike link) last ∙ alike_self link;
    }

-- one more edge, whose link has these fronts
pub links_more : (list : Order) (x y z : List Front) (edges : List TaskEdge) (old new : List Link) (k : ℕ) (edge : TaskEdge) (a b left right : ℕ) → slice_get edges k ≡ Some edge → a ≡ 2 ^ edge.left → b ≡ 2 ^ edge.right → IsGrowing x y → IsGrowing y z → left < length y → slice_index_or y left Any ≡ need_front edge.left_need → right < length z → slice_index_or z right Any ≡ need_front edge.right_need → IsKeeping old new (record { edge = k; left = a; right = b; left_front = left; right_front = right }) → AreLinks list x edges old k → AreLinks list z edges new (k + 1)
links_more list x y z edges old new k edge a b left right found a_is b_is g h left_in left_is right_in right_is kept t =
    let link : Link = record { edge = k; left = a; right = b; left_front = left; right_front = right } in
    let grown = growing_then x y z g h in
    let more = h.longer in
    let here : Ties list z edge link = record {
      left_slot = sym a_is;
      right_slot = sym b_is;
      left_in = omega arith;
      right_in = right_in;
      left_asks = ap (front_order list) (h.keeps left left_in ∙ left_is) ∙ need_asks list edge.left_need;
      right_asks = ap (front_order list) right_is ∙ need_asks list edge.right_need;
    } in
    let longer = kept.longer in
    record {
      each = λ i within.
          elim (cases_lt i (length old)) [
            | inl less ↦ subst (IsLink list z edges) (sym (kept.keeps i less)) (link_grows list x z edges (link_at old i) grown (t.each i less))
            | inr past ↦ subst (IsLink list z edges) (sym (kept.added i past within)) (record {
              number = slice_get_within edges k edge found;
              tied = λ e at. subst (λ d. Ties list z d link) (same_Some edge e (sym found ∙ at)) here;
            })
          ];
      all = λ j e within at.
          elim (cases_lt j k) [
            | inl less ↦ ∥∥₁_map (t.all j e less at) (λ w. record {
              link = w.link;
              link_in = (let inside = w.link_in in omega arith);
              joins = subst (Joins list z e) (sym (kept.keeps w.link w.link_in)) (joins_grow list x z e (link_at old w.link) grown w.joins);
            })
            | inr past ↦
                let same : k ≡ j = omega arith in
                let edges_same : edge ≡ e = same_Some edge e (sym found ∙ subst (λ n. slice_get edges n ≡ Some e) (sym same) at) in
                ∣ record {
                  link = kept.place;
                  link_in = kept.place_in;
                  joins = subst (λ d. Joins list z d (link_at new kept.place)) edges_same (alike_joins list z edge link (link_at new kept.place) kept.alike here);
                } ∣₁
          ];
    }

-- needs of two items have no order in common
longer_none : (y z : Item) (x f : ℕ) (b : Bool) → is_same_item y z ≡ b → ¬ (y ≡ z) → cond b (Some f) None ≡ None
longer_none y z x f true same other = absurd (other (same_item y z same))
longer_none y z x f false same other = refl

pub apart_from : (list : Order) (fronts : List Front) (heads : List (Option Item)) → AreFronts fronts → AreHeads list fronts heads → AreHeadsApart heads
apart_from list fronts heads f h =
    let count = h.count in
    let head : (k : ℕ) (item : Item) → k < length fronts → slice_index_or fronts k Any ≡ Need item → slice_index_or heads k None ≡ Some item = λ k item within is. h.each k within ∙ ap (λ t. first_item (front_order list t)) is in
    record {
      asks = λ k from within none.
          let n = f.needs k from (omega arith) in
          let is : slice_index_or heads k None ≡ Some n.0 = head k n.0 (omega arith) n.1 in
          cc;
      apart = λ x k from within from2 within2 other.
          let n = f.needs x from (omega arith) in
          let m = f.needs k from2 (omega arith) in
          let differ : ¬ (n.0 ≡ m.0) = λ same.
          let fronts_same : slice_index_or fronts x Any ≡ slice_index_or fronts k Any = n.1 ∙ ap Need same ∙ sym m.1 in
          elim (cases_lt x k) [
            | inl less ↦ f.once x k from less (omega arith) fronts_same
            | inr past ↦
                elim (cases_lt k x) [
                  | inl more ↦ f.once k x from2 more (omega arith) (sym fronts_same)
                  | inr equal ↦ other (omega arith)
                ]
          ] in
          ap (λ t. longer_front t (slice_index_or heads k None) x k) (head x n.0 (omega arith) n.1) ∙ ap (λ t. longer_front (Some n.0) t x k) (head k m.0 (omega arith) m.1) ∙ longer_none n.0 m.0 x k (is_same_item n.0 m.0) refl differ;
    }

pub needs_from : (task : Task) (fronts : List Front) (heads : List (Option Item)) (links : List Link) → AreFronts fronts → AreNeeded task.edges fronts → AreHeads (listed task) fronts heads → AreLinks (listed task) fronts task.edges links (length task.edges) → AreNeeds task fronts heads links
needs_from task fronts heads links f n h l =
    record {
      some = f.some;
      nothing = f.nothing;
      all = f.all;
      first = h;
      apart = apart_from (listed task) fronts heads f h;
      needed = n;
      linked = l;
    }

pub edge_found : (xs edges : List TaskEdge) (k : ℕ) (d : TaskEdge) → xs ≡ edges → k < length edges → slice_get edges k ≡ Some (slice_index_or xs k d)
edge_found xs edges k d same within =
    subst (λ ys. slice_get edges k ≡ Some (slice_index_or ys k d)) (sym same) (slice_get-get_or edges k d within)

-- the slots of an edge
pub slots_few : (task : Task) (xs : List TaskEdge) (k : ℕ) (d : TaskEdge) → xs ≡ task.edges → k < length task.edges → ((slice_index_or xs k d).left < 64) × ((slice_index_or xs k d).right < 64)
slots_few task xs k d same within =
    let limits = All-get_or (EdgeLimits task.slots) task.edges k d within task.limits.each_edge in
    let most = task.limits.slots_most in
    subst (λ (ys : List TaskEdge). ((slice_index_or ys k d).left < 64) × ((slice_index_or ys k d).right < 64)) (sym same) (omega (arith, limits.left_slot, most), omega (arith, limits.right_slot, most))
