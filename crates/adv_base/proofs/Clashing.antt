-- Members of configurations that clash.
use Rattle.std.proofs.Common.{◌≡◌, ℕ, zero, suc, ◌+◌, ◌-◌, ◌<◌, ◌≤◌, Bool, true, false, not, ◌&&◌, ◌==◌, List, [], ◌∷◌, length, Option, Some, None, slice_get, slice_index_or, inl, inr, refl, sym, ap, subst, ◌∙◌, eqb-true, eq-eqb, arith}
use Rattle.std.specs.Option.{option_map_or}
use Rattle.std.proofs.lemmas.Bool.{and_parts, cases_lt}
use Rattle.adv_base.specs.declared.catalogue.index.IndexShape.{IndexShape}
use Rattle.adv_base.specs.declared.setting.Config.{Config}
use Rattle.adv_base.specs.Configs.{has_candidate, are_clashing, is_clash, clashes, Clashes, IsApart, IsFirstClash}

-- a test of what is found holds only where something is
some-passes : {X : Type 0} (passes : X → Bool) (found : Option X) → option_map_or passes found false ≡ true → (x : X) × (found ≡ Some x) × (passes x ≡ true)
some-passes passes None e = absurd cc
some-passes passes (Some x) e = (x, refl, e)

-- what a configuration has is within its flags
member-within : (config : Config) (n b : ℕ) → length config.on ≡ n → has_candidate config b ≡ true → b ≤ n
member-within config n zero long has = omega arith
member-within config n (suc b) long has =
    let back : suc b - 1 ≡ b = omega arith in
    let flag : slice_index_or config.on b false ≡ true = ap (λ (k : ℕ). slice_index_or config.on k false) (sym back) ∙ (and_parts (not (suc b == 0)) (slice_index_or config.on (suc b - 1) false) has).1 in
    let within = on-within config.on b flag in
    omega (arith, within, long)
  where
    on-within : (flags : List Bool) (i : ℕ) → slice_index_or flags i false ≡ true → i < length flags
    on-within [] i e = absurd cc
    on-within (flag ∷ flags) zero e = omega arith
    on-within (flag ∷ flags) (suc i) e = let more = on-within flags i e in omega (arith, more)

-- a candidate that clashes with no lesser number clashes with no lesser member
pub no_lesser : (shapes : List IndexShape) (config : Config) (b : ℕ) → ((k : ℕ) → 1 ≤ k → k < b → clashes shapes config k b ≡ false) → (a : ℕ) → Clashes shapes config a b → ⊥
no_lesser shapes config b none zero h = let no : false ≡ true = h.clash in absurd cc
no_lesser shapes config b none (suc a) h =
    let no = none (suc a) (omega arith) h.ordered in
    let yes = h.clash in
    absurd cc

abbrev NoneBefore : List IndexShape → Config → ℕ → Type 0
NoneBefore shapes config n = (a b : ℕ) → b < n → Clashes shapes config a b → ⊥

-- the first that clashes with a lesser one
pub first_clash : (shapes : List IndexShape) (config : Config) (a b : ℕ) → NoneBefore shapes config b → Clashes shapes config a b → IsFirstClash shapes config a b
first_clash shapes config a b none h =
    record { is = h; least = λ c d other. elim (cases_lt d b) [ inl less ↦ absurd (none c d less other) | inr more ↦ more ] }

pub none_more : (shapes : List IndexShape) (config : Config) (n : ℕ) → NoneBefore shapes config n → ((a : ℕ) → Clashes shapes config a n → ⊥) → NoneBefore shapes config (n + 1)
none_more shapes config n none here a b less h = elim (cases_lt b n) [
  | inl before ↦ none a b before h
  | inr after ↦
      let same : b ≡ n = omega arith in
      here a (record { ordered = omega (arith, h.ordered); clash = sym (ap (λ (k : ℕ). clashes shapes config a k) same) ∙ h.clash })
]

pub none_at_all : (shapes : List IndexShape) (config : Config) (n : ℕ) → length config.on < n → NoneBefore shapes config n → IsApart shapes config
none_at_all shapes config n past none a b h =
    let members = (and_parts (has_candidate config a && has_candidate config b) (is_clash shapes a b) h.clash).0 in
    let within = member-within config (length config.on) b refl (and_parts (has_candidate config a) (has_candidate config b) members).1 in
    none a b (omega (arith, within, past)) h

-- ## The first clash is one

all-three : (a b c : Bool) → a ≡ true → b ≡ true → c ≡ true → (a && b && c) ≡ true
all-three true true true x y z = refl
all-three false b c x y z = absurd cc
all-three true false c x y z = absurd cc
all-three true true false x y z = absurd cc

-- two shapes that clash
record Pair (shapes : List IndexShape) (a b : ℕ) : Type 0 where
  pub one : IndexShape
  pub other : IndexShape
  pub one_found : slice_get shapes (a - 1) ≡ Some one
  pub other_found : slice_get shapes (b - 1) ≡ Some other
  pub clustered : one.clustered ≡ true
  pub also : other.clustered ≡ true
  pub table : one.table ≡ other.table

pair-of : (shapes : List IndexShape) (a b : ℕ) → is_clash shapes a b ≡ true → Pair shapes a b
pair-of shapes a b e =
    let one = some-passes (λ (one : IndexShape). option_map_or (are_clashing one) (slice_get shapes (b - 1)) false) (slice_get shapes (a - 1)) e in
    let other = some-passes (are_clashing one.0) (slice_get shapes (b - 1)) one.2 in
    let parts = and_parts (one.0.clustered && other.0.clustered) (one.0.table == other.0.table) other.2 in
    let flags = and_parts one.0.clustered other.0.clustered parts.0 in
    record { one = one.0; other = other.0; one_found = one.1; other_found = other.1; clustered = flags.0; also = flags.1; table = eqb-true one.0.table other.0.table parts.1 }

-- two that clash with a third clash with each other
meet : (shapes : List IndexShape) (a c b : ℕ) → Pair shapes a b → Pair shapes c b → is_clash shapes a c ≡ true
meet shapes a c b x y =
    let same : Some x.other ≡ Some y.other = sym x.other_found ∙ y.other_found in
    let third : x.other ≡ y.other = cc in
    let tables : x.one.table ≡ y.one.table = x.table ∙ ap (λ (s : IndexShape). s.table) third ∙ sym y.table in
    ap (λ (o : Option IndexShape). option_map_or (λ one. option_map_or (are_clashing one) (slice_get shapes (c - 1)) false) o false) x.one_found
    ∙ ap (λ (o : Option IndexShape). option_map_or (are_clashing x.one) o false) y.one_found
    ∙ all-three x.one.clustered y.one.clustered (x.one.table == y.one.table) x.clustered y.clustered (eq-eqb x.one.table y.one.table tables)

-- of two that clash with the first clashing one, the lesser would clash with the greater
not-below : (shapes : List IndexShape) (config : Config) (a c b : ℕ) → IsFirstClash shapes config a b → Clashes shapes config c b → a < c → ⊥
not-below shapes config a c b h k less =
    let mine = and_parts (has_candidate config a && has_candidate config b) (is_clash shapes a b) h.is.clash in
    let yours = and_parts (has_candidate config c && has_candidate config b) (is_clash shapes c b) k.clash in
    let has = (and_parts (has_candidate config a) (has_candidate config b) mine.0).0 in
    let also = (and_parts (has_candidate config c) (has_candidate config b) yours.0).0 in
    let clash = meet shapes a c b (pair-of shapes a b mine.1) (pair-of shapes c b yours.1) in
    let earlier = h.least a c (record { ordered = less; clash = all-three (has_candidate config a) (has_candidate config c) (is_clash shapes a c) has also clash }) in
    omega (arith, earlier, k.ordered)

pub same-second : (shapes : List IndexShape) (config : Config) (a b c d : ℕ) → IsFirstClash shapes config a b → IsFirstClash shapes config c d → b ≡ d
same-second shapes config a b c d h k = let one = h.least c d k.is in let other = k.least a b h.is in omega (arith, one, other)

pub same-first : (shapes : List IndexShape) (config : Config) (a b c d : ℕ) → IsFirstClash shapes config a b → IsFirstClash shapes config c d → a ≡ c
same-first shapes config a b c d h k =
    let second = same-second shapes config a b c d h k in
    let theirs : Clashes shapes config c b = subst (λ (n : ℕ). Clashes shapes config c n) (sym second) k.is in
    let mine : Clashes shapes config a d = subst (λ (n : ℕ). Clashes shapes config a n) second h.is in
    elim (cases_lt a c) [
      | inl less ↦ absurd (not-below shapes config a c b h theirs less)
      | inr more ↦ elim (cases_lt c a) [ inl less ↦ absurd (not-below shapes config c a d k mine less) | inr least ↦ omega (arith, more, least) ]
    ]

-- ## A second that isn't a clustered member clashes with none

-- two shapes that clash are both clustered
second-clustered : (shapes : List IndexShape) (a b : ℕ) → is_clash shapes a b ≡ true → option_map_or (λ shape. shape.clustered) (slice_get shapes (b - 1)) false ≡ true
second-clustered shapes a b e =
    let pair = pair-of shapes a b e in
    ap (λ (o : Option IndexShape). option_map_or (λ shape. shape.clustered) o false) pair.other_found ∙ pair.also

pub unclustered-apart : (shapes : List IndexShape) (config : Config) (b : ℕ) → (option_map_or (λ shape. shape.clustered) (slice_get shapes (b - 1)) false && has_candidate config b) ≡ false →
    (a : ℕ) → Clashes shapes config a b → ⊥
unclustered-apart shapes config b none a h =
    let parts = and_parts (has_candidate config a && has_candidate config b) (is_clash shapes a b) h.clash in
    let has = (and_parts (has_candidate config a) (has_candidate config b) parts.0).1 in
    let flag = second-clustered shapes a b parts.1 in
    not-both (option_map_or (λ shape. shape.clustered) (slice_get shapes (b - 1)) false) (has_candidate config b) flag has none
  where
    not-both : (x y : Bool) → x ≡ true → y ≡ true → (x && y) ≡ false → ⊥
    not-both true true one two none = absurd cc
    not-both false y one two none = absurd cc
    not-both true false one two none = absurd cc

-- ## What holds fewer members

-- no two of fewer candidates clash where no two of more do
pub fewer-apart : (shapes : List IndexShape) (few many : Config) → ((a : ℕ) → has_candidate few a ≡ true → has_candidate many a ≡ true) → IsApart shapes many → IsApart shapes few
fewer-apart shapes few many more apart a b h =
    let parts = and_parts (has_candidate few a && has_candidate few b) (is_clash shapes a b) h.clash in
    let members = and_parts (has_candidate few a) (has_candidate few b) parts.0 in
    apart a b (record {
      ordered = h.ordered;
      clash = all-three (has_candidate many a) (has_candidate many b) (is_clash shapes a b) (more a members.0) (more b members.1) parts.1;
    })

-- a first clash isn't apart
pub clash-or-apart : (shapes : List IndexShape) (config : Config) (a b : ℕ) → IsFirstClash shapes config a b → IsApart shapes config → ⊥
clash-or-apart shapes config a b h apart = apart a b h.is
