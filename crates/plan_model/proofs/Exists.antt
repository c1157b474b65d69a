-- Some plan joins all slots, and so there is one of the whole task.
use Rattle.std.proofs.Common.{◌≡◌, ◌≢◌, ℕ, zero, suc, ◌+◌, ◌-◌, ◌*◌, ◌^◌, ◌<◌, ◌≤◌, inl, inr, Bool, true, false, cond, ◌&&◌, IsTrue, List, [], ◌∷◌, length, map, bit_and, min, All, Option, Some, None, slice_get, slice_index, refl, sym, ap, ◌∙◌, subst, arith}
use denote.RawPtr.{null_ptr}
use Rattle.std.proofs.Common.{Box, Global}
use Rattle.std.specs.List.{list_any}
use Rattle.std.proofs.Math.Nat.{one-le-pow, mul-le-mul}
use Rattle.std.proofs.Math.Pow.{pow_mono}
use Rattle.std.proofs.lemmas.Bool.{false≢true, cases_lt, or_cases, or_left, or_right, and_parts, and_from}
use Rattle.std.proofs.lemmas.Nat.{and-not, and_comm, and_le_l}
use Rattle.std.proofs.lemmas.Nat.Bits.{and_pow, bit_at_and, bit_at-zero}
use Rattle.std.proofs.lemmas.List.Elements.{All-head, All-tail, All-get_or}
use Rattle.std.specs.Int.{bit_at}
use Rattle.std.specs.Int.Bits.{and_self}
use Rattle.std.specs.Option.{option_map_or}
use Rattle.std.proofs.lemmas.List.{get_or_past}
use Rattle.adv_base.specs.declared.workload.parts.Item.{Item}
use Rattle.adv_base.specs.Items.{Order, BeginsWith}
use Rattle.adv_base.specs.Offers.{Offer, OfferTable}
use Rattle.adv_base.specs.Sets.{all_slots, has_slot, is_crossing}
use Rattle.adv_base.proofs.Begins.{begins_nil, begins_self}
use Rattle.plan_model.specs.declared.edge.TaskEdge.{TaskEdge}
use Rattle.plan_model.specs.declared.plan.GroupStep.{GroupStep}
use Rattle.plan_model.specs.declared.plan.GroupStep.TheVariants.{Nothing, Hashed}
use Rattle.plan_model.specs.declared.plan.Plan.{Plan}
use Rattle.plan_model.specs.declared.plan.Plan.TheVariants.{Leaf, Hash'}
use Rattle.plan_model.specs.declared.task.Task.{Task}
use Rattle.plan_model.specs.Limits.Tasks.{ends, EdgeLimits, RowLimits}
use Rattle.adv_base.specs.OfferTables.{price_at, OfferLimits, OfferTableLimits, HasOffers}
use Rattle.plan_model.specs.Plans.{IsValid, FitsGroup, body_sorts, covers, crosses, delivers, group_order}
use Rattle.plan_model.specs.Costs.{plan_cost, rows_in, hash_cost, merge_cost}
use Rattle.plan_model.specs.Least.{HasPlan}
use Rattle.plan_model.proofs.Bounds.{covers_some}
use Rattle.plan_model.proofs.SetLaws.{has-bit, has-single}

-- a set below 2 ^ n and the rest of all slots are apart
rest_apart : (n a : ℕ) → a ≤ all_slots n → bit_and a (all_slots n - a) ≡ 0
rest_apart n a h =
    let some : 1 ≤ 2 ^ n = one-le-pow n 2 (omega arith) in
    let sum : bit_and (2 ^ n - 1 - a) a + bit_and a a ≡ a = and-not n a a (omega arith) (omega arith) in
    let self : bit_and a a ≡ a = and_self a in
    and_comm a (all_slots n - a) ∙ omega arith

slot_fits : (b j : ℕ) → has_slot b j ≡ true → 2 ^ j ≤ b
slot_fits b j h =
    let is : bit_and b (2 ^ j) ≡ 1 * 2 ^ j = and_pow b j ∙ ap (λ t. t * 2 ^ j) (has-bit b j h) in
    omega (arith, is, and_le_l b (2 ^ j))

slot_apart : (a b j : ℕ) → bit_and a b ≡ 0 → has_slot b j ≡ true → bit_and a (2 ^ j) ≡ 0
slot_apart a b j apart h =
    let one = has-bit b j h in
    let none : min (bit_at a j) (bit_at b j) ≡ 0 = sym (bit_at_and a b j) ∙ ap (λ t. bit_at t j) apart ∙ bit_at-zero j in
    let zero' : bit_at a j ≡ 0 = omega arith in
    and_pow a j ∙ ap (λ t. t * 2 ^ j) zero' ∙ omega arith

-- a slot of b that an edge joins to a
record Joining (slots a b : ℕ) (edges : List TaskEdge) : Type 0 where
  slot : ℕ
  slot_in : slot < slots
  in_rest : has_slot b slot ≡ true
  joined : list_any (crosses a (2 ^ slot)) edges ≡ true

joining : (slots a b : ℕ) (edges : List TaskEdge) → All (EdgeLimits slots) edges → list_any (is_crossing a b) (map ends edges) ≡ true → Joining slots a b edges
joining slots a b [] limits h = absurd (false≢true h)
joining slots a b (x ∷ xs) limits h =
    let here = All-head (EdgeLimits slots) x xs limits in
    elim (or_cases (is_crossing a b (ends x)) (list_any (is_crossing a b) (map ends xs)) h) [
      | inl crossing ↦
          elim (or_cases (has_slot a x.left && has_slot b x.right) (has_slot a x.right && has_slot b x.left) crossing) [
            | inl p ↦
                let q = and_parts (has_slot a x.left) (has_slot b x.right) p in
                record {
                  slot = x.right;
                  slot_in = here.right_slot;
                  in_rest = q.1;
                  joined = or_left (crosses a (2 ^ x.right) x) (list_any (crosses a (2 ^ x.right)) xs) (or_left (has_slot a x.left && has_slot (2 ^ x.right) x.right) (has_slot a x.right && has_slot (2 ^ x.right) x.left) (and_from (has_slot a x.left) (has_slot (2 ^ x.right) x.right) q.0 (has-single x.right)));
                }
            | inr p ↦
                let q = and_parts (has_slot a x.right) (has_slot b x.left) p in
                record {
                  slot = x.left;
                  slot_in = here.left_slot;
                  in_rest = q.1;
                  joined = or_left (crosses a (2 ^ x.left) x) (list_any (crosses a (2 ^ x.left)) xs) (or_right (has_slot a x.left && has_slot (2 ^ x.left) x.right) (has_slot a x.right && has_slot (2 ^ x.left) x.left) (and_from (has_slot a x.right) (has_slot (2 ^ x.left) x.left) q.0 (has-single x.left)));
                }
          ]
      | inr later ↦
          let w = joining slots a b xs (All-tail (EdgeLimits slots) x xs limits) later in
          record {
            slot = w.slot;
            slot_in = w.slot_in;
            in_rest = w.in_rest;
            joined = or_right (crosses a (2 ^ w.slot) x) (list_any (crosses a (2 ^ w.slot)) xs) w.joined;
          }
    ]

pub rows_most : (rows : List ℕ) (s : ℕ) → All RowLimits rows → slice_index rows s ≤ 1000000000000
rows_most rows s limits =
    elim (cases_lt s (length rows)) [
      | inl within ↦ (All-get_or RowLimits rows s 0 within limits).most
      | inr past ↦ omega (arith, get_or_past rows s 0 past)
    ]

pub hash_most : (task : Task) (l r j : ℕ) → l ≤ 1000000000000 → r ≤ 1000000000000 → j ≤ 1000000000000 → hash_cost task.rates l r j ≤ 4000000000000000000
unfolding hash_cost
hash_most task l r j hl hr hj =
    let sides : l + 2 * r ≤ 3000000000000 = omega arith in
    let rate : task.rates.hash_cpu ≤ 1000000 = task.rates.limits.hash_cpu_most in
    let out : task.rates.row_cpu ≤ 1000000 = task.rates.limits.row_cpu_most in
    let x : task.rates.hash_cpu * (l + 2 * r) ≤ 1000000 * 3000000000000 = mul-le-mul rate sides in
    let y : task.rates.row_cpu * j ≤ 1000000 * 1000000000000 = mul-le-mul out hj in
    omega arith

pub merge_most : (task : Task) (l r j : ℕ) → l ≤ 1000000000000 → r ≤ 1000000000000 → j ≤ 1000000000000 → merge_cost task.rates l r j ≤ 4000000000000000000
unfolding merge_cost
merge_most task l r j hl hr hj =
    let sides : l + r ≤ 2000000000000 = omega arith in
    let rate : task.rates.merge_cpu ≤ 1000000 = task.rates.limits.merge_cpu_most in
    let out : task.rates.row_cpu ≤ 1000000 = task.rates.limits.row_cpu_most in
    let x : task.rates.merge_cpu * (l + r) ≤ 1000000 * 2000000000000 = mul-le-mul rate sides in
    let y : task.rates.row_cpu * j ≤ 1000000 * 1000000000000 = mul-le-mul out hj in
    omega arith

first_price : (slot : ℕ) (xs : List Offer) → All (OfferLimits slot) xs → option_map_or (λ (o : Offer). o.1) (slice_get xs 0) 0 ≤ 10000000000000000000
first_price slot [] limits = omega arith
first_price slot (x ∷ xs) limits = (All-head (OfferLimits slot) x xs limits).price

-- a valid plan of all slots that isn't dear
pub record Joined (task : Task) (table : OfferTable) : Type 0 where
  pub plan : Plan
  pub valid : IsValid false task table plan
  pub covers_all : covers plan ≡ all_slots task.slots
  pub cost : plan_cost task table plan ≤ 20000000000000000000 * all_slots task.slots

module _ (alloc : Global) (task : Task) (table : OfferTable) (limits : OfferTableLimits table) (has : HasOffers task.slots table) where
  grow : (n : ℕ) (p : Plan) → all_slots task.slots ≤ covers p + n → IsValid false task table p → covers p ≤ all_slots task.slots → plan_cost task table p ≤ 20000000000000000000 * covers p → Joined task table
  grow zero p near valid within cost =
      let same : covers p ≡ all_slots task.slots = omega arith in
      record { plan = p; valid = valid; covers_all = same; cost = subst (λ t. plan_cost task table p ≤ 20000000000000000000 * t) same cost }
  grow (suc n) p near valid within cost =
      let all : ℕ = all_slots task.slots in
      let a : ℕ = covers p in
      let b : ℕ = all - a in
      elim (cases_lt a all) [
        | inr full ↦
            let same : covers p ≡ all = omega arith in
            record { plan = p; valid = valid; covers_all = same; cost = subst (λ t. plan_cost task table p ≤ 20000000000000000000 * t) same cost }
        | inl less ↦
            let apart : bit_and a b ≡ 0 = rest_apart task.slots a within in
            let j = joining task.slots a b task.edges task.limits.each_edge (task.limits.connected a b (covers_some p) (omega arith) (omega arith) apart) in
            let fits : 2 ^ j.slot ≤ b = slot_fits b j.slot j.in_rest in
            let some : 1 ≤ 2 ^ j.slot = one-le-pow j.slot 2 (omega arith) in
            let leaf : Plan = Leaf j.slot 0 in
            let at : Box (Unit {0}) Global = record { ptr = null_ptr; alloc = alloc; value = tt } in
            let next : Plan = Hash' at p at leaf in
            let price : price_at table j.slot 0 ≤ 10000000000000000000 = first_price j.slot (table j.slot) (limits j.slot) in
            let rows = task.limits.rows_limits in
            let join : hash_cost task.rates (rows_in task a) (rows_in task (2 ^ j.slot)) (rows_in task (a + 2 ^ j.slot)) ≤ 4000000000000000000 = hash_most task (rows_in task a) (rows_in task (2 ^ j.slot)) (rows_in task (a + 2 ^ j.slot)) (rows_most task.rows a rows) (rows_most task.rows (2 ^ j.slot) rows) (rows_most task.rows (a + 2 ^ j.slot) rows) in
            grow n next (omega arith) (valid, (j.slot_in, has j.slot j.slot_in), slot_apart a b j.slot apart j.in_rest, j.joined) (omega arith) (omega arith)
      ]

  -- the edges connect the slots, so hash joins of one slot after the other reach them all
  pub joined : Joined task table
  joined =
      let slots = task.limits.slots_some in
      let more : 2 ^ 1 ≤ 2 ^ task.slots = pow_mono slots in
      let leaf : Plan = Leaf 0 0 in
      let price : price_at table 0 0 ≤ 10000000000000000000 = first_price 0 (table 0) (limits 0) in
      grow (all_slots task.slots) leaf (omega arith) (slots, has 0 slots) (omega arith) (omega arith)

-- ## A plan of the whole task

-- the heap's handle, of which there is one value
heap : Global
heap = record { memory = record { seal = tt } }

-- above a body in no order: a hashed group, where the task groups
abbrev pub hashed_step : Option Order → GroupStep
hashed_step None = Nothing
hashed_step (Some group) = Hashed

sorts-none : (group : Option Order) → body_sorts (hashed_step group) ≡ false
sorts-none None = refl
sorts-none (Some group) = refl

fits-any : (group : Option Order) (order : Order) → FitsGroup group (hashed_step group) order
fits-any None order = tt
fits-any (Some group) order = tt

-- and a final sort, where it orders
abbrev pub has_items : Order → Bool
has_items [] = false
has_items (item ∷ items) = true

pub some-item : (item : Item) (items : Order) → (item ∷ items) ≢ []
some-item item items none = cc

by-something : (order : Order) → IsTrue (has_items order) → order ≢ []
by-something [] sorts = absurd (false≢true sorts)
by-something (item ∷ items) sorts = some-item item items

sorts-so : (order other : Order) → BeginsWith (cond (has_items order) order other) order
sorts-so [] other = begins_nil other
sorts-so (item ∷ items) other = begins_self (item ∷ items)

pub has-plan : (task : Task) (table : OfferTable) → OfferTableLimits table → HasOffers task.slots table → HasPlan task table
has-plan task table limits has =
    let j = joined heap task table limits has in
    record {
      whole = record { body = j.plan; group = hashed_step task.group; final_sort = has_items task.order };
      valid =
          record {
            body_valid = subst (λ (sorts : Bool). IsValid sorts task table j.plan) (sym (sorts-none task.group)) j.valid;
            covers_all = j.covers_all;
            group_fits = fits-any task.group (delivers table j.plan);
            sorts_by_something = by-something task.order;
            ordered = sorts-so task.order (group_order task.group (hashed_step task.group) (delivers table j.plan));
          };
    }
