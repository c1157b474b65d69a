-- A workload as groups of alike statements.
use Rattle.std.specs.Prelude.{◌≡◌, ℕ, ◌+◌, nat_le, Bool, true, ◌&&◌, if◌then◌else◌, List, [], ◌∷◌, fold}
use Rattle.std.specs.List.{enumerate_from}
use Rattle.adv_base.specs.declared.catalogue.Catalogue.{Catalogue}
use Rattle.adv_base.specs.declared.limits.TheConstants.{MOST_WEIGHT}
use Rattle.adv_base.specs.declared.workload.Statement.{Statement}
use Rattle.workload_fold.specs.Alike.{is_alike}

-- a group: its first statement, the number of that from 1, and the sum of the weights of its statements
pub record Group : Type 0 where
  pub number : ℕ
  pub first : Statement
  pub weight : ℕ

-- the group's first statement is alike, and the group's weight with the statement's is at most that of a statement
abbrev pub takes : Catalogue → Statement → Group → Bool
takes cat statement group = nat_le (group.weight + statement.weight) MOST_WEIGHT && is_alike cat group.first.work statement.work

-- the group with a statement's weight
abbrev pub heavier : Group → ℕ → Group
heavier group weight = record { number = group.number; first = group.first; weight = group.weight + weight }

-- a statement with its number alone
abbrev pub begun : ℕ × Statement → Group
begun numbered = record { number = numbered.0; first = numbered.1; weight = numbered.1.weight }

-- a statement with its number joins the earliest group that takes it, or begins a group behind the others
abbrev pub joined : Catalogue → List Group → ℕ × Statement → List Group
joined cat [] numbered = begun numbered ∷ []
joined cat (group ∷ groups) numbered =
    if takes cat numbered.1 group then heavier group numbered.1.weight ∷ groups else group ∷ joined cat groups numbered

-- the groups of a workload: its statements are taken in order
unfoldable pub groups_of : Catalogue → List Statement → List Group
groups_of cat statements = fold (joined cat) [] (enumerate_from 1 statements)

-- statements that stand for groups: each has its group's weight, and is alike to its group's first statement
abbrev pub StandFor : Catalogue → List Group → List Statement → Type 0
StandFor cat [] [] = Unit {0}
StandFor cat (group ∷ groups) (statement ∷ statements) =
    (statement.weight ≡ group.weight) × (is_alike cat group.first.work statement.work ≡ true) × StandFor cat groups statements
StandFor cat groups statements = ⊥

-- a workload that stands for another, folded
abbrev pub IsFolded : Catalogue → List Statement → List Statement → Type 0
IsFolded cat statements folded = StandFor cat (groups_of cat statements) folded
