-- What is proposed names a table of the catalogue and columns of it, none twice.
use Rattle.std.proofs.Common.{◌≡◌, ℕ, zero, suc, ◌+◌, ◌<◌, ◌≤◌, ◌==◌, Bool, true, false, cond, List, [], ◌∷◌, ◌++◌, length, map, get_or, refl, sym, ap, subst, ◌∙◌, arith}
use Rattle.std.specs.Prelude.{nat_eq, filter, take, All, Option, Some, None, slice_get, option_and_then}
use Rattle.std.specs.List.{list_all, flat_map, filter_map, cons_option, range_with_len, enumerate_from, IsDistinct}
use Rattle.std.specs.Option.{option_map_or}
use Rattle.std.proofs.lemmas.Bool.{and_parts}
use Rattle.std.proofs.lemmas.Bool.Decides.{Decides-eqb, Decides-ltb}
use Rattle.std.proofs.lemmas.Cmp.{nat_eq_equiv}
use Rattle.std.proofs.lemmas.List.Elements.{All-nil, All-cons, All-head, All-tail, All-push, All-append, All-map, All-weaker, All-filter, All-take, filter_passes}
use Rattle.std.proofs.lemmas.Map.Keys.{IsDistinct-push, apart_from_distinct}
use Rattle.adv_base.specs.declared.catalogue.Catalogue.{Catalogue}
use Rattle.adv_base.specs.declared.catalogue.index.IndexShape.{IndexShape}
use Rattle.adv_base.specs.declared.workload.Statement.{Statement}
use Rattle.adv_base.specs.declared.workload.Work.{Work}
use Rattle.adv_base.specs.declared.workload.Work.TheVariants.{Select, Update, Delete, Insert}
use Rattle.adv_base.specs.declared.workload.block.Block.{Block}
use Rattle.adv_base.specs.declared.workload.parts.Edge.{Edge}
use Rattle.adv_base.specs.declared.workload.parts.Item.{Item}
use Rattle.adv_base.specs.declared.workload.parts.Item.TheVariants.{Up, Down, Made}
use Rattle.adv_base.specs.declared.workload.parts.Slot.{Slot}
use Rattle.adv_base.specs.declared.workload.predicate.Pred.{Pred}
use Rattle.adv_base.specs.declared.workload.predicate.Test.{Test}
use Rattle.adv_base.specs.Items.{is_up_of}
use Rattle.adv_base.specs.Limits.Numbers.{KeyLimits}
use Rattle.adv_base.specs.Lookups.{table_at, column_count, slot_columns}
use Rattle.adv_base.specs.Named.{NamesSlot, NamesPred, NamesEdge, NamesItems, NamesBlock, NamesWork, NamesShape, names_item}
use Rattle.adv_base.specs.Predicates.{is_point, is_range}
use Rattle.candidates.specs.Columns.{has_column, with_column, joined, is_slot_pred, tested_columns, point_columns, range_columns, edge_column, join_columns, up_column, own_columns, group_columns, order_columns, needed_columns}
use Rattle.candidates.specs.Proposals.{KeyList, Proposal, plain_index, clustered_index, is_clusterable, forms, single_lists, lists_behind, column_lists, sorted_lists, covering_list, slot_proposals, block_proposals, work_proposals, proposals}
use Rattle.candidates.specs.Candidates.{proposal_of, existing_indexes, fresh_proposals}
use Rattle.candidates.proofs.FreshLaws.{Fits, All-flat_map, All-fresh}

-- columns below a number, none twice
pub record Sound (n : ℕ) (keys : List ℕ) : Type 0 where
  pub below : All (λ c. c < n) keys
  pub apart : IsDistinct nat_eq keys

sound-nil : (n : ℕ) → Sound n []
unfolding IsDistinct
sound-nil n = record { below = All-nil (λ c. c < n); apart = tt }

sound-with : (n : ℕ) (keys : List ℕ) (c : ℕ) → c < n → Sound n keys → Sound n (with_column keys c)
sound-with n keys c low sound = by_case (has_column keys c) refl
  where
    by_case : (b : Bool) → has_column keys c ≡ b → Sound n (with_column keys c)
    by_case true e = subst (Sound n) (sym (ap (λ (t : Bool). cond t keys (keys ++ c ∷ [])) e)) sound
    by_case false e =
        subst (Sound n) (sym (ap (λ (t : Bool). cond t keys (keys ++ c ∷ [])) e))
        (record { below = All-push (λ k. k < n) keys c sound.below low; apart = IsDistinct-push nat_eq_equiv keys c sound.apart e })

sound-joined : (n : ℕ) (keys more : List ℕ) → Sound n keys → All (λ c. c < n) more → Sound n (joined keys more)
sound-joined n keys [] sound below = sound
sound-joined n keys (c ∷ cs) sound below =
    sound-joined n (with_column keys c) cs (sound-with n keys c (All-head (λ k. k < n) c cs below) sound) (All-tail (λ k. k < n) c cs below)

-- what a function gives of each element
All-filter_map : {X Y : Type 0} (P : Y → Type 0) (Q : X → Type 0) (h : X → Option Y) → ((x : X) (y : Y) → Q x → h x ≡ Some y → P y) → (xs : List X) → All Q xs → All P (filter_map h xs)
All-filter_map P Q h gives [] each = All-nil P
All-filter_map {X} {Y} P Q h gives (x ∷ xs) each = by_case (h x) refl (All-filter_map P Q h gives xs (All-tail Q x xs each))
  where
    by_case : (o : Option Y) → h x ≡ o → All P (filter_map h xs) → All P (filter_map h (x ∷ xs))
    by_case None e rest = subst (All P) (sym (ap (λ (o : Option Y). cons_option o (filter_map h xs)) e)) rest
    by_case (Some y) e rest =
        subst (All P) (sym (ap (λ (o : Option Y). cons_option o (filter_map h xs)) e))
        (All-cons P y (filter_map h xs) (gives x y (All-head Q x xs each) e) rest)

pub All-unmap : {X Y : Type 0} (P : Y → Type 0) (f : X → Y) (xs : List X) → All P (map f xs) → All (λ x. P (f x)) xs
All-unmap P f [] each = All-nil (λ x. P (f x))
All-unmap P f (x ∷ xs) each = All-cons (λ y. P (f y)) x xs (All-head P (f x) (map f xs) each) (All-unmap P f xs (All-tail P (f x) (map f xs) each))

pred-below : (cat : Catalogue) (block : Block) (s : ℕ) (kind : Test → Bool) (pred : Pred) → NamesPred cat block pred → is_slot_pred kind s pred ≡ true → pred.column < slot_columns cat block s
pred-below cat block s kind pred named h =
    let parts = and_parts (pred.slot == s) (kind pred.test) h in
    subst (λ (t : ℕ). pred.column < slot_columns cat block t) ((Decides-eqb pred.slot s).0 parts.0) named.column

tested-below : (cat : Catalogue) (block : Block) (s : ℕ) (kind : Test → Bool) → NamesBlock cat block → All (λ c. c < slot_columns cat block s) (tested_columns kind block s)
tested-below cat block s kind named =
    All-map (λ (c : ℕ). c < slot_columns cat block s) (λ (pred : Pred). pred.column) (filter (is_slot_pred kind s) block.preds)
    (λ k d within.
    pred-below cat block s kind (get_or (filter (is_slot_pred kind s) block.preds) k d)
    (All-filter (is_slot_pred kind s) (NamesPred cat block) block.preds named.preds k d within)
    (filter_passes (is_slot_pred kind s) block.preds k d within))

edge-below : (cat : Catalogue) (block : Block) (s : ℕ) (edge : Edge) (c : ℕ) → NamesEdge cat block edge → edge_column s edge ≡ Some c → c < slot_columns cat block s
edge-below cat block s edge c named h = by_left (edge.left == s) refl
  where
    by_right : (b : Bool) → (edge.right == s) ≡ b → (edge.left == s) ≡ false → c < slot_columns cat block s
    by_right true e none =
        let is : Some edge.right_column ≡ Some c
        = sym (ap (λ (t : Bool). cond t (Some edge.left_column) (cond (edge.right == s) (Some edge.right_column) None)) none ∙ ap (λ (t : Bool). cond t (Some edge.right_column) None) e) ∙ h in
        let same : edge.right_column ≡ c = cc in
        subst (λ (k : ℕ). k < slot_columns cat block s) same (subst (λ (t : ℕ). edge.right_column < slot_columns cat block t) ((Decides-eqb edge.right s).0 e) named.right)
    by_right false e none =
        let is : None ≡ Some c
        = sym (ap (λ (t : Bool). cond t (Some edge.left_column) (cond (edge.right == s) (Some edge.right_column) None)) none ∙ ap (λ (t : Bool). cond t (Some edge.right_column) None) e) ∙ h in
        absurd (cc)

    by_left : (b : Bool) → (edge.left == s) ≡ b → c < slot_columns cat block s
    by_left true e =
        let is : Some edge.left_column ≡ Some c
        = sym (ap (λ (t : Bool). cond t (Some edge.left_column) (cond (edge.right == s) (Some edge.right_column) None)) e) ∙ h in
        let same : edge.left_column ≡ c = cc in
        subst (λ (k : ℕ). k < slot_columns cat block s) same (subst (λ (t : ℕ). edge.left_column < slot_columns cat block t) ((Decides-eqb edge.left s).0 e) named.left)
    by_left false e = by_right (edge.right == s) refl e

ups-below : (cat : Catalogue) (block : Block) (s : ℕ) (items : List Item) → NamesItems cat block items → list_all (is_up_of s) items ≡ true
    → All (λ c. c < slot_columns cat block s) (filter_map up_column items)
ups-below cat block s [] named up = All-nil (λ c. c < slot_columns cat block s)
ups-below cat block s (Up t d ∷ items) named up =
    let parts = and_parts (t == s) (list_all (is_up_of s) items) up in
    let is = (Decides-ltb d (slot_columns cat block t)).0 (All-head (λ item. names_item cat block item ≡ true) (Up t d) items named) in
    All-cons (λ c. c < slot_columns cat block s) d (filter_map up_column items)
    (subst (λ (k : ℕ). d < slot_columns cat block k) ((Decides-eqb t s).0 parts.0) is)
    (ups-below cat block s items (All-tail (λ item. names_item cat block item ≡ true) (Up t d) items named) parts.1)
ups-below cat block s (Down t d ∷ items) named up = absurd (cc)
ups-below cat block s (Made n ∷ items) named up = absurd (cc)

own-sound : (cat : Catalogue) (block : Block) (s : ℕ) (items : List Item) → NamesItems cat block items → Sound (slot_columns cat block s) (own_columns s items)
own-sound cat block s [] named = sound-nil (slot_columns cat block s)
own-sound cat block s (x ∷ xs) named = by_case (list_all (is_up_of s) (x ∷ xs)) refl
  where
    by_case : (b : Bool) → list_all (is_up_of s) (x ∷ xs) ≡ b → Sound (slot_columns cat block s) (own_columns s (x ∷ xs))
    by_case true e =
        subst (Sound (slot_columns cat block s)) (sym (ap (λ (t : Bool). cond t (joined [] (filter_map up_column (x ∷ xs))) []) e))
        (sound-joined (slot_columns cat block s) [] (filter_map up_column (x ∷ xs)) (sound-nil (slot_columns cat block s)) (ups-below cat block s (x ∷ xs) named e))
    by_case false e =
        subst (Sound (slot_columns cat block s)) (sym (ap (λ (t : Bool). cond t (joined [] (filter_map up_column (x ∷ xs))) []) e)) (sound-nil (slot_columns cat block s))

range-below : (a n m : ℕ) → a + n ≤ m → All (λ c. c < m) (range_with_len a n)
range-below a zero m most = All-nil (λ c. c < m)
range-below a (suc n) m most = All-cons (λ c. c < m) a (range_with_len (a + 1) n) (omega arith) (range-below (a + 1) n m (omega arith))

points-sound : (cat : Catalogue) (block : Block) (s : ℕ) → NamesBlock cat block → Sound (slot_columns cat block s) (point_columns block s)
unfolding point_columns
points-sound cat block s named = sound-joined (slot_columns cat block s) [] (tested_columns is_point block s) (sound-nil (slot_columns cat block s)) (tested-below cat block s is_point named)

ranges-sound : (cat : Catalogue) (block : Block) (s : ℕ) → NamesBlock cat block → Sound (slot_columns cat block s) (range_columns block s)
unfolding range_columns
ranges-sound cat block s named = sound-joined (slot_columns cat block s) [] (tested_columns is_range block s) (sound-nil (slot_columns cat block s)) (tested-below cat block s is_range named)

joins-sound : (cat : Catalogue) (block : Block) (s : ℕ) → NamesBlock cat block → Sound (slot_columns cat block s) (join_columns block s)
unfolding join_columns
joins-sound cat block s named =
    sound-joined (slot_columns cat block s) [] (filter_map (edge_column s) block.edges) (sound-nil (slot_columns cat block s))
    (All-filter_map (λ c. c < slot_columns cat block s) (NamesEdge cat block) (edge_column s) (edge-below cat block s) block.edges named.edges)

group-sound : (cat : Catalogue) (block : Block) (s : ℕ) → NamesBlock cat block → Sound (slot_columns cat block s) (group_columns block s)
unfolding group_columns
group-sound cat block s named = by_case block.group refl
  where
    by_case : (o : Option (List Item)) → block.group ≡ o → Sound (slot_columns cat block s) (group_columns block s)
    by_case None e = subst (λ (o : Option (List Item)). Sound (slot_columns cat block s) (option_map_or (own_columns s) o [])) (sym e) (sound-nil (slot_columns cat block s))
    by_case (Some items) e =
        subst (λ (o : Option (List Item)). Sound (slot_columns cat block s) (option_map_or (own_columns s) o [])) (sym e)
        (own-sound cat block s items (named.group items e))

order-sound : (cat : Catalogue) (block : Block) (s : ℕ) → NamesBlock cat block → Sound (slot_columns cat block s) (order_columns block s)
unfolding order_columns
order-sound cat block s named = own-sound cat block s block.order named.order

needed-below : (cat : Catalogue) (slot : Slot) → All (λ c. c < column_count cat slot.table) (needed_columns cat slot)
unfolding needed_columns
needed-below cat slot =
    All-filter (has_column slot.needed) (λ c. c < column_count cat slot.table) (range_with_len 0 (column_count cat slot.table))
    (range-below 0 (column_count cat slot.table) (column_count cat slot.table) (omega arith))

-- a table of the catalogue and columns of it, none twice
pub record IsSound (cat : Catalogue) (p : KeyList) : Type 0 where
  pub table : p.0 < length cat.tables
  pub columns : Sound (column_count cat p.0) p.1

singles-sound : (cat : Catalogue) (t : ℕ) (columns : List ℕ) → t < length cat.tables → All (λ c. c < column_count cat t) columns → All (IsSound cat) (single_lists t columns)
singles-sound cat t columns there below =
    All-map (IsSound cat) (λ c. (t, c ∷ [])) columns
    (All-weaker (λ c. c < column_count cat t) (λ c. IsSound cat (t, c ∷ []))
    (λ c low. record { table = there; columns = sound-with (column_count cat t) [] c low (sound-nil (column_count cat t)) }) columns below)

behind-sound : (cat : Catalogue) (t : ℕ) (keys columns : List ℕ) → t < length cat.tables → Sound (column_count cat t) keys → All (λ c. c < column_count cat t) columns → All (IsSound cat) (lists_behind t keys columns)
behind-sound cat t keys columns there sound below =
    All-map (IsSound cat) (λ c. (t, with_column keys c)) columns
    (All-weaker (λ c. c < column_count cat t) (λ c. IsSound cat (t, with_column keys c))
    (λ c low. record { table = there; columns = sound-with (column_count cat t) keys c low sound }) columns below)

column_lists-sound : (cat : Catalogue) (t : ℕ) (points ranges joins : List ℕ) → t < length cat.tables → Sound (column_count cat t) points → Sound (column_count cat t) ranges → Sound (column_count cat t) joins
    → All (IsSound cat) (column_lists t points ranges joins)
unfolding column_lists
column_lists-sound cat t points ranges joins there p r j =
    All-append (IsSound cat) (single_lists t points ++ single_lists t ranges ++ single_lists t joins ++ lists_behind t points ranges) (lists_behind t points joins)
    (All-append (IsSound cat) (single_lists t points ++ single_lists t ranges ++ single_lists t joins) (lists_behind t points ranges)
    (All-append (IsSound cat) (single_lists t points ++ single_lists t ranges) (single_lists t joins)
    (All-append (IsSound cat) (single_lists t points) (single_lists t ranges) (singles-sound cat t points there p.below) (singles-sound cat t ranges there r.below))
    (singles-sound cat t joins there j.below))
    (behind-sound cat t points ranges there p r.below))
    (behind-sound cat t points joins there p j.below)

sorted_lists-sound : (cat : Catalogue) (t : ℕ) (points group order : List ℕ) → t < length cat.tables → Sound (column_count cat t) points → Sound (column_count cat t) group → Sound (column_count cat t) order
    → All (IsSound cat) (sorted_lists t points group order)
unfolding sorted_lists
sorted_lists-sound cat t points group order there p g o =
    All-cons (IsSound cat) (t, group) ((t, order) ∷ (t, joined points order) ∷ []) (record { table = there; columns = g })
    (All-cons (IsSound cat) (t, order) ((t, joined points order) ∷ []) (record { table = there; columns = o })
    (All-cons (IsSound cat) (t, joined points order) [] (record { table = there; columns = sound-joined (column_count cat t) points order p o.below }) (All-nil (IsSound cat))))

covering_list-sound : (cat : Catalogue) (t : ℕ) (points ranges needed : List ℕ) → t < length cat.tables → Sound (column_count cat t) points → Sound (column_count cat t) ranges → All (λ c. c < column_count cat t) needed
    → IsSound cat (covering_list t points ranges needed)
unfolding covering_list
covering_list-sound cat t points ranges needed there p r n =
    record {
      table = there;
      columns = sound-joined (column_count cat t) (joined points (take 1 ranges)) needed
          (sound-joined (column_count cat t) points (take 1 ranges) p (All-take (λ c. c < column_count cat t) 1 ranges r.below)) n;
    }

-- the same of an index that is proposed
abbrev pub IsSoundIndex : Catalogue → Proposal → Type 0
IsSoundIndex cat p = IsSound cat (p.table, p.keys)

forms-sound : (cat : Catalogue) (clusterable : Bool) (list : KeyList) → IsSound cat list → All (IsSoundIndex cat) (forms clusterable list)
forms-sound cat true list sound =
    All-cons (IsSoundIndex cat) (plain_index list) (clustered_index list ∷ []) sound (All-cons (IsSoundIndex cat) (clustered_index list) [] sound (All-nil (IsSoundIndex cat)))
forms-sound cat false list sound = All-cons (IsSoundIndex cat) (plain_index list) [] sound (All-nil (IsSoundIndex cat))

slot_proposals-sound : (cat : Catalogue) (block : Block) (s : ℕ) (slot : Slot) → slice_get block.slots s ≡ Some slot → NamesBlock cat block → slot.table < length cat.tables → All (IsSoundIndex cat) (slot_proposals cat block s slot)
unfolding slot_proposals
slot_proposals-sound cat block s slot is named there =
    let count : slot_columns cat block s ≡ column_count cat slot.table
    = ap (λ (o : Option Slot). option_map_or (λ table. length table.columns) (option_and_then (λ (sl : Slot). table_at cat sl.table) o) 0) is in
    let points = subst (λ (n : ℕ). Sound n (point_columns block s)) count (points-sound cat block s named) in
    let ranges = subst (λ (n : ℕ). Sound n (range_columns block s)) count (ranges-sound cat block s named) in
    let joins = subst (λ (n : ℕ). Sound n (join_columns block s)) count (joins-sound cat block s named) in
    let group = subst (λ (n : ℕ). Sound n (group_columns block s)) count (group-sound cat block s named) in
    let order = subst (λ (n : ℕ). Sound n (order_columns block s)) count (order-sound cat block s named) in
    let tested : List KeyList = column_lists slot.table (point_columns block s) (range_columns block s) (join_columns block s) in
    let sorted : List KeyList = sorted_lists slot.table (point_columns block s) (group_columns block s) (order_columns block s) in
    let covering : KeyList = covering_list slot.table (point_columns block s) (range_columns block s) (needed_columns cat slot) in
    let lists : All (IsSound cat) (tested ++ sorted)
    = All-append (IsSound cat) tested sorted
    (column_lists-sound cat slot.table (point_columns block s) (range_columns block s) (join_columns block s) there points ranges joins)
    (sorted_lists-sound cat slot.table (point_columns block s) (group_columns block s) (order_columns block s) there points group order) in
    All-append (IsSoundIndex cat) (flat_map (forms (is_clusterable cat slot.table)) (tested ++ sorted)) (plain_index covering ∷ [])
    (All-flat_map (IsSoundIndex cat) (forms (is_clusterable cat slot.table)) (tested ++ sorted)
    (All-weaker (IsSound cat) (λ list. All (IsSoundIndex cat) (forms (is_clusterable cat slot.table) list)) (λ list sound. forms-sound cat (is_clusterable cat slot.table) list sound) (tested ++ sorted) lists))
    (All-cons (IsSoundIndex cat) (plain_index covering) []
    (covering_list-sound cat slot.table (point_columns block s) (range_columns block s) (needed_columns cat slot) there points ranges (needed-below cat slot)) (All-nil (IsSoundIndex cat)))

numbered-sound : (cat : Catalogue) (block : Block) (i : ℕ) (slots : List Slot) → NamesBlock cat block → All (NamesSlot cat) slots → ((k : ℕ) → slice_get slots k ≡ slice_get block.slots (i + k))
    → All (IsSoundIndex cat) (flat_map (λ numbered. slot_proposals cat block numbered.0 numbered.1) (enumerate_from i slots))
numbered-sound cat block i [] named each at = All-nil (IsSoundIndex cat)
numbered-sound cat block i (slot ∷ slots) named each at =
    let here : slice_get block.slots i ≡ Some slot = ap (slice_get block.slots) (omega arith) ∙ sym (at 0) in
    let next : (k : ℕ) → slice_get slots k ≡ slice_get block.slots (i + 1 + k) = λ k. at (suc k) ∙ ap (slice_get block.slots) (omega arith) in
    All-append (IsSoundIndex cat) (slot_proposals cat block i slot) (flat_map (λ numbered. slot_proposals cat block numbered.0 numbered.1) (enumerate_from (i + 1) slots))
    (slot_proposals-sound cat block i slot here named (All-head (NamesSlot cat) slot slots each).table)
    (numbered-sound cat block (i + 1) slots named (All-tail (NamesSlot cat) slot slots each) next)

block_proposals-sound : (cat : Catalogue) (block : Block) → NamesBlock cat block → All (IsSoundIndex cat) (block_proposals cat block)
unfolding block_proposals
block_proposals-sound cat block named = numbered-sound cat block 0 block.slots named named.slots (λ k. ap (slice_get block.slots) (omega arith))

work_proposals-sound : (cat : Catalogue) (work : Work) → NamesWork cat work → All (IsSoundIndex cat) (work_proposals cat work)
unfolding work_proposals
work_proposals-sound cat (Select block) named = block_proposals-sound cat block (named.selects block refl)
work_proposals-sound cat (Update block columns) named = block_proposals-sound cat block (named.updates block columns refl).block_named
work_proposals-sound cat (Delete block) named = block_proposals-sound cat block (named.deletes block refl)
work_proposals-sound cat (Insert table rows) named = All-nil (IsSoundIndex cat)

-- each proposal is sound
pub proposals-sound : (cat : Catalogue) (statements : List Statement) → All (λ statement. NamesWork cat statement.work) statements → All (IsSoundIndex cat) (proposals cat statements)
unfolding proposals
proposals-sound cat statements named =
    All-flat_map (IsSoundIndex cat) (λ statement. work_proposals cat statement.work) statements
    (All-weaker (λ statement. NamesWork cat statement.work) (λ statement. All (IsSoundIndex cat) (work_proposals cat statement.work)) (λ statement h. work_proposals-sound cat statement.work h) statements named)

-- sound keys, 1 to 8 of them, are those of an index
pub KeyLimits-sound : (cat : Catalogue) (p : Proposal) → IsSoundIndex cat p → Fits p → KeyLimits p.keys
KeyLimits-sound cat p sound fits =
    record {
      some = fits.some;
      few = fits.few;
      apart = λ i j before within. λ same.
          let no = apart_from_distinct nat_eq p.keys i j 0 sound.columns.apart before within in
          let yes = (Decides-eqb (get_or p.keys i 0) (get_or p.keys j 0)).1 same in
          absurd (let e : false ≡ true = sym no ∙ yes in cc);
    }

pub NamesShape-sound : (cat : Catalogue) (shape : IndexShape) → IsSoundIndex cat (proposal_of shape) → NamesShape cat shape
NamesShape-sound cat shape sound = record { table = sound.table; keys = sound.columns.below }

-- so are the fresh ones, which have 1 to 8 columns
pub fresh-sound : (cat : Catalogue) (statements : List Statement) → All (λ statement. NamesWork cat statement.work) statements
    → All (λ p. IsSoundIndex cat p × Fits p) (fresh_proposals cat statements)
unfolding fresh_proposals
fresh-sound cat statements named =
    All-fresh (λ p. IsSoundIndex cat p × Fits p) (existing_indexes cat) [] (proposals cat statements) (All-nil (λ p. IsSoundIndex cat p × Fits p))
    (All-weaker (IsSoundIndex cat) (λ p. Fits p → IsSoundIndex cat p × Fits p) (λ p sound fits. (sound, fits)) (proposals cat statements) (proposals-sound cat statements named))

pub fresh-limits : (cat : Catalogue) (statements : List Statement) → All (λ statement. NamesWork cat statement.work) statements → All (λ p. KeyLimits p.keys) (fresh_proposals cat statements)
fresh-limits cat statements named =
    All-weaker (λ p. IsSoundIndex cat p × Fits p) (λ p. KeyLimits p.keys) (λ p h. KeyLimits-sound cat p h.0 h.1) (fresh_proposals cat statements) (fresh-sound cat statements named)

-- shapes of the first fresh proposals name what the catalogue has
pub shapes-named : (cat : Catalogue) (statements : List Statement) (shapes : List IndexShape) (n : ℕ) → All (λ statement. NamesWork cat statement.work) statements
    → map proposal_of shapes ≡ take n (fresh_proposals cat statements) → All (NamesShape cat) shapes
shapes-named cat statements shapes n named is =
    let sound = All-take (λ p. IsSoundIndex cat p × Fits p) n (fresh_proposals cat statements) (fresh-sound cat statements named) in
    let each = All-unmap (λ p. IsSoundIndex cat p × Fits p) proposal_of shapes (subst (All (λ p. IsSoundIndex cat p × Fits p)) (sym is) sound) in
    All-weaker (λ shape. IsSoundIndex cat (proposal_of shape) × Fits (proposal_of shape)) (NamesShape cat) (λ shape h. NamesShape-sound cat shape h.0) shapes each
