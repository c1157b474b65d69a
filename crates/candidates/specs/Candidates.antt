-- The candidates among the proposed indexes.
use Rattle.std.specs.Prelude.{◌≡◌, ℕ, ◌-◌, ◌==◌, nat_eq, nat_lt, Bool, false, ◌&&◌, ◌||◌, if◌then◌else◌, List, [], ◌∷◌, ◌++◌, length, map, take, fold, All}
use Rattle.std.specs.List.{list_any, flat_map}
use Rattle.std.specs.Bool.{beq}
use Rattle.std.specs.Cmp.Lexicographic.{pointwise}
use Rattle.adv_base.specs.declared.catalogue.Catalogue.{Catalogue}
use Rattle.adv_base.specs.declared.catalogue.index.IndexShape.{IndexShape}
use Rattle.adv_base.specs.declared.limits.TheConstants.{MOST_CANDIDATES, MOST_KEYS}
use Rattle.adv_base.specs.declared.workload.Statement.{Statement}
use Rattle.candidates.specs.Proposals.{Proposal, plain_index, proposals}

-- the same columns of the same table in the same order, and both are clustered or neither is
abbrev pub is_same : Proposal → Proposal → Bool
is_same p q = p.table == q.table && (pointwise nat_eq p.keys q.keys && beq p.clustered q.clustered)

-- an index as a proposal
abbrev pub proposal_of : IndexShape → Proposal
proposal_of shape = record { table = shape.table; keys = shape.keys; clustered = shape.clustered }

-- its keys, as those of a plain one
abbrev pub plain_form : IndexShape → Proposal
plain_form shape = plain_index (shape.table, shape.keys)

-- the indexes that exist: whether clustered or not, their keys leave out plain proposals alone
unfoldable pub existing_indexes : Catalogue → List Proposal
existing_indexes cat = flat_map (λ table. map (λ index. plain_form index.shape) table.indexes) cat.tables

-- left out: no column, too many, proposed before, the keys of an index that exists
abbrev pub is_left_out : List Proposal → List Proposal → Proposal → Bool
is_left_out existing before p =
    length p.keys == 0 || nat_lt MOST_KEYS (length p.keys) || list_any (is_same p) before || list_any (is_same p) existing

-- one proposal more
abbrev pub with_proposal : List Proposal → List Proposal → Proposal → List Proposal
with_proposal existing before p = if is_left_out existing before p then before else before ++ p ∷ []

-- all that are not left out, in sequence; the first of them are the candidates
unfoldable pub fresh_proposals : Catalogue → List Statement → List Proposal
fresh_proposals cat statements = fold (with_proposal (existing_indexes cat)) [] (proposals cat statements)

-- a candidate isn't unique
abbrev pub IsNotUnique : IndexShape → Type 0
IsNotUnique shape = shape.unique ≡ false

-- The candidates of a workload are the first 256 of the indexes that it proposes, less those that are left out, none of them
-- unique; and how many more there were.
pub record AreCandidates (catalogue : Catalogue) (statements : List Statement) (shapes : List IndexShape) (left_over : ℕ) : Type 0 where
  pub proposed : map proposal_of shapes ≡ take MOST_CANDIDATES (fresh_proposals catalogue statements)
  pub not_unique : All IsNotUnique shapes
  pub rest : left_over ≡ length (fresh_proposals catalogue statements) - MOST_CANDIDATES
