-- What the grammar says of terminals that were read, and which faults come.
use Rattle.std.proofs.Common.{◌≡◌, ℕ, ◌+◌, Bool, true, false, List, [], ◌∷◌, ◌++◌, length, Option, Some, None, option_map, nat_lt, sym, refl, subst, if◌then◌else◌}
use Rattle.sql_reader.specs.declared.terminal.Terminal.{Terminal}
use Rattle.sql_reader.specs.declared.parsed.SqlFault.{SqlFault}
use Rattle.sql_reader.specs.declared.parsed.SqlFault.TheVariants as faults
use Rattle.sql_reader.specs.declared.parts.Progress.{Progress}
use Rattle.sql_reader.specs.declared.cursor.Unread.{Unread}
use Rattle.sql_reader.specs.declared.cursor.Unread.TheVariants.{Memory, Here}
use Rattle.sql_reader.specs.inner.Reads.{StopsAt}
use Rattle.sql_reader.specs.Kinds.{has}
use Rattle.sql_reader.specs.Rule.{Meaning, Reading, Read, Stuck}
use Rattle.sql_reader.specs.Exact.{NoneGoesOn, FailsAt, IsExact, IsRead, reads}
use Rattle.sql_reader.specs.Grammar.{grammar, borders, levels, workload}
use Rattle.sql_reader.specs.Values.{place_of, no_statements}
use Rattle.sql_reader.specs.Terminals.{bad_weight, start_behind}
use Rattle.sql_reader.specs.Workload.{MeansStatements, left_out, grammar_fault, fault_behind, GrammarSays, place_of_fault, earlier, IsFirstFault, HasSqlFault}
use Rattle.sql_reader.proofs.AsPrinted.{is_as_printed}
use Rattle.sql_reader.proofs.Exactly.{reads_exactly}
use Rattle.sql_reader.proofs.Good.{good_workload, closes_workload, good_grammar}

-- where two meanings are the same, what fails in one fails in the other
module _ {A B : Type 0} (is also : Meaning A B) (there : (a : A) (ps : List Terminal) (b : B) → is a ps b → also a ps b) (back : (a : A) (ps : List Terminal) (b : B) → also a ps b → is a ps b) where
  none_also : (a : A) (front rest : List Terminal) → NoneGoesOn is a front rest → NoneGoesOn also a front rest
  none_also a front [] h = λ b k. h b (back a front b k)
  none_also a front (p ∷ rest) h = λ q more b e k. h q more b e (back a (front ++ q ∷ more) b k)

  fails_also : (a : A) (terminals rest : List Terminal) → FailsAt is a terminals rest → FailsAt also a terminals rest
  fails_also a terminals rest h =
      let (more, b, is_there) = h.before in
      record { front = h.front; split = h.split; before = (more, b, there a (h.front ++ more) b is_there); none = none_also a h.front rest h.none }

  exact_also : (a : A) (terminals : List Terminal) (x : Reading B) → IsExact is a terminals x → IsExact also a terminals x
  exact_also a terminals (Read b []) h = there a terminals b h
  exact_also a terminals (Read b (p ∷ rest)) h = fails_also a terminals (p ∷ rest) h
  exact_also a terminals (Stuck rest) h = fails_also a terminals rest h

-- what is meant by the printed grammar is what is meant by the rules that are read
pub means_printed : (start : Progress) (terminals : List Terminal) (end : Progress) → IsRead grammar levels workload start terminals end → MeansStatements start terminals end
means_printed start terminals end h = (is_as_printed.workload_rule levels start terminals end).0 h

pub means_read : (start : Progress) (terminals : List Terminal) (end : Progress) → MeansStatements start terminals end → IsRead grammar levels workload start terminals end
means_read start terminals end h = (is_as_printed.workload_rule levels start terminals end).1 h

exact_at : (terminals : List Terminal) (x : Reading Progress) → reads grammar levels workload no_statements terminals ≡ x → IsExact MeansStatements no_statements terminals x
exact_at terminals x e =
    exact_also (IsRead grammar levels workload) MeansStatements means_printed means_read no_statements terminals x
    (subst (λ (y : Reading Progress). IsExact (IsRead grammar levels workload) no_statements terminals y) e
    (reads_exactly borders grammar levels workload good_grammar good_workload closes_workload no_statements terminals))

pub says_read : (end : ℕ) (terminals : List Terminal) (progress : Progress) (rest : List Terminal) → reads grammar levels workload no_statements terminals ≡ Read progress rest →
    GrammarSays end terminals progress (fault_behind end rest)
says_read end terminals progress [] e = exact_at terminals (Read progress []) e
says_read end terminals progress (p ∷ rest) e = (p ∷ rest, exact_at terminals (Read progress (p ∷ rest)) e, refl)

pub says_stuck : (end : ℕ) (terminals : List Terminal) (progress : Progress) (rest : List Terminal) → reads grammar levels workload no_statements terminals ≡ Stuck rest →
    GrammarSays end terminals progress (Some (grammar_fault end rest))
says_stuck end terminals progress rest e = (rest, exact_at terminals (Stuck rest) e, refl)

-- where a function stops before the next terminal the reading is stuck
pub stuck_from : (stop : Unread) (reading : Reading Progress) (rest : List Terminal) → stop ≡ Here → StopsAt stop reading rest → reading ≡ Stuck rest
stuck_from Memory reading rest e h = absurd cc
stuck_from Here reading rest e h = h

-- a fault that is none of a token's
IsLate : SqlFault → Type 0
IsLate faults.Memory = ⊥
IsLate (faults.BadByte place) = ⊥
IsLate (faults.OpenText place) = ⊥
IsLate (faults.Syntax place) = Unit {0}
IsLate (faults.Unsupported place) = Unit {0}
IsLate (faults.BadWeight place) = Unit {0}
IsLate (faults.TooManyStatements place) = Unit {0}

AreLate : Option SqlFault → Type 0
AreLate None = Unit {0}
AreLate (Some fault) = IsLate fault

late_choice : (c : Bool) (f g : SqlFault) → IsLate f → IsLate g → AreLate (if c then Some g else Some f)
unfolding IsLate AreLate
late_choice true f g hf hg = hg
late_choice false f g hf hg = hf

late_earlier : (f g : Option SqlFault) → AreLate f → AreLate g → AreLate (earlier f g)
unfolding IsLate AreLate
late_earlier None g hf hg = hg
late_earlier (Some f) None hf hg = hf
late_earlier (Some f) (Some g) hf hg = late_choice (nat_lt (place_of_fault g) (place_of_fault f)) f g hf hg

late_grammar : (end : ℕ) (rest : List Terminal) → IsLate (grammar_fault end rest)
unfolding IsLate
late_grammar end [] = tt
late_grammar end (p ∷ rest) = by_kind (has left_out p.kind)
  where
    by_kind : (c : Bool) → IsLate (if c then faults.Unsupported (place_of p) else faults.Syntax (place_of p))
    by_kind true = tt
    by_kind false = tt

late_weight : (o : Option ℕ) → AreLate (option_map faults.BadWeight o)
unfolding IsLate AreLate
late_weight None = tt
late_weight (Some place) = tt

late_start : (o : Option ℕ) → AreLate (option_map faults.TooManyStatements o)
unfolding IsLate AreLate
late_start None = tt
late_start (Some place) = tt

late_says : (end : ℕ) (terminals : List Terminal) (progress : Progress) (fault : Option SqlFault) → GrammarSays end terminals progress fault → AreLate fault
unfolding AreLate
late_says end terminals progress None h = tt
late_says end terminals progress (Some fault) (rest, fails, e) = subst IsLate (sym e) (late_grammar end rest)

late_first : (text : List ℕ) (fault : SqlFault) → IsFirstFault text fault → IsLate fault
unfolding AreLate
late_first text fault (statements, says) =
    let all = late_earlier says.of_grammar _ (late_says (length text + 1) says.terminals says.progress says.of_grammar says.says)
    (late_earlier _ _ (late_weight (bad_weight text says.list)) (late_start (start_behind 1000 says.terminals))) in
    subst AreLate (sym says.first) all

pub from_first : (text : List ℕ) (fault : SqlFault) → IsFirstFault text fault → HasSqlFault text fault
unfolding IsLate
from_first text faults.Memory h = absurd (late_first text faults.Memory h)
from_first text (faults.BadByte place) h = absurd (late_first text (faults.BadByte place) h)
from_first text (faults.OpenText place) h = absurd (late_first text (faults.OpenText place) h)
from_first text (faults.Syntax place) h = h
from_first text (faults.Unsupported place) h = h
from_first text (faults.BadWeight place) h = h
from_first text (faults.TooManyStatements place) h = h
