-- A line that is no rule is told by its number alone.
use Rattle.std.proofs.Common.{◌≡◌, ℕ, zero, suc, Bool, true, false, if◌then◌else◌, ◌==◌, List, [], ◌∷◌, ◌++◌, length, drop, codes, Option, Some, None, Result, Ok, Err, refl, sym, ap, ◌∙◌}
use Rattle.std.specs.List.{prefix_len}
use Rattle.std.specs.Option.{option_map_or}
use Rattle.std.specs.Prelude.{take_while}
use Rattle.std.specs.Str.{bytes_eq}
use Rattle.adv_base.specs.Readings.{◌>>=◌, or_fault, where_holds}
use Rattle.dba_rules.specs.declared.fault.RuleFault.{RuleFault}
use Rattle.dba_rules.specs.declared.fault.RuleFault.TheVariants.{BadLine}
use Rattle.dba_rules.specs.declared.line.IndexName.{IndexName}
use Rattle.dba_rules.specs.declared.line.Named.{Named}
use Rattle.dba_rules.specs.declared.line.Named.TheVariants.{Index, Table, Column}
use Rattle.dba_rules.specs.declared.line.Rule.{Rule}
use Rattle.dba_rules.specs.declared.line.Rule.TheVariants.{Blank, Must, Never}
use Rattle.dba_rules.specs.Lines.{is_name_byte, is_name, IsRule, front_name, after, behind, column_step, columns_from, tail, index_from, column_of, named_from, is_blank, must, never, spoken, rule_in}
use Rattle.dba_rules.proofs.Spelled.{done, Front, Step, step-end, made, rule_spelled}

-- a reading has no fault but that its line is none
abbrev OnlyBad : {A : Type 0} → ℕ → Result A RuleFault → Type 0
OnlyBad number r = (fault : RuleFault) → r ≡ Err fault → fault ≡ BadLine number

only-ok : {A : Type 0} (number : ℕ) (x : A) → OnlyBad number (done x)
only-ok number x fault e = absurd cc

only-where : {A : Type 0} (number : ℕ) (b : Bool) (x : A) → OnlyBad number (where_holds (BadLine number) b x)
only-where number true x fault e = absurd cc
only-where number false x fault e = cc

only-or : {A : Type 0} (number : ℕ) (o : Option A) → OnlyBad number (or_fault (BadLine number) o)
only-or number None fault e = cc
only-or number (Some x) fault e = absurd cc

only-bind : {A B : Type 0} (number : ℕ) (r : Result A RuleFault) (f : A → Result B RuleFault) → OnlyBad number r → ((x : A) → OnlyBad number (f x)) → OnlyBad number (r >>= f)
only-bind number (Ok x) f first next = next x
only-bind number (Err d) f first next = λ fault e. let same : d ≡ fault = cc in sym same ∙ first d refl

only-map : {A B : Type 0} (number : ℕ) (f : A → Result B RuleFault) (o : Option A) (r : Result B RuleFault) → ((x : A) → OnlyBad number (f x)) → OnlyBad number r → OnlyBad number (option_map_or f o r)
only-map number f None r some none = none
only-map number f (Some x) r some none = some x

only-if : {A : Type 0} (number : ℕ) (b : Bool) (r s : Result A RuleFault) → OnlyBad number r → OnlyBad number s → OnlyBad number (if b then r else s)
only-if number true r s first second = first
only-if number false r s first second = second

only-front : (number : ℕ) (bytes : List ℕ) → OnlyBad number (front_name number bytes)
only-front number bytes = only-where number (is_name (take_while is_name_byte bytes)) (take_while is_name_byte bytes, drop (prefix_len is_name_byte bytes) bytes)

only-behind : (number : ℕ) (word bytes : List ℕ) → OnlyBad number (behind number word bytes)
only-behind number word bytes = only-or number (after word bytes)

only-end : (number : ℕ) (columns : List (List ℕ)) (bytes : List ℕ) → OnlyBad number (step-end number columns bytes)
only-end number columns bytes =
    only-map number (λ (rest : List ℕ). Ok (columns, true, rest)) (after (codes ")") bytes) (behind number (codes ", ") bytes >>= λ rest. Ok (columns, false, rest))
    (λ rest. only-ok number (columns, true, rest))
    (only-bind number (behind number (codes ", ") bytes) (λ (rest : List ℕ). Ok (columns, false, rest)) (only-behind number (codes ", ") bytes) (λ rest. only-ok number (columns, false, rest)))

only-step : (number : ℕ) (before : List (List ℕ)) (bytes : List ℕ) → OnlyBad number (column_step number before bytes)
unfolding column_step
only-step number before bytes =
    only-bind number (front_name number bytes) (λ (name : Front). step-end number (before ++ name.0 ∷ []) name.1) (only-front number bytes) (λ name. only-end number (before ++ name.0 ∷ []) name.1)

only-columns : (number n : ℕ) (before : List (List ℕ)) (bytes : List ℕ) → OnlyBad number (columns_from number n before bytes)
only-columns number zero before bytes = λ fault e. cc
only-columns number (suc n) before bytes =
    only-bind number (column_step number before bytes) (λ (s : Step). if s.1 then Ok (s.0, s.2) else columns_from number n s.0 s.2) (only-step number before bytes)
    (λ s. only-if number s.1 (done (s.0, s.2)) (columns_from number n s.0 s.2) (only-ok number (s.0, s.2)) (only-columns number n s.0 s.2))

only-tail : (number : ℕ) (rest : List ℕ) → OnlyBad number (tail number rest)
only-tail number rest =
    only-if number (length rest == 0) (done false) (where_holds (BadLine number) (bytes_eq rest (codes " clustered")) true) (only-ok number false) (only-where number (bytes_eq rest (codes " clustered")) true)

only-index : (number : ℕ) (table rest : List ℕ) → OnlyBad number (index_from number table rest)
unfolding index_from
only-index number table rest =
    only-bind number (behind number (codes "(") rest) (λ (inside : List ℕ). columns_from number 8 [] inside >>= λ columns. tail number columns.1 >>= λ clustered. Ok (made table columns.0 clustered))
    (only-behind number (codes "(") rest)
    (λ inside. only-bind number (columns_from number 8 [] inside) (λ (columns : List (List ℕ) × List ℕ). tail number columns.1 >>= λ clustered. Ok (made table columns.0 clustered)) (only-columns number 8 [] inside)
    (λ columns. only-bind number (tail number columns.1) (λ (clustered : Bool). Ok (made table columns.0 clustered)) (only-tail number columns.1) (λ clustered. only-ok number (made table columns.0 clustered))))

only-named : (number : ℕ) (table rest : List ℕ) → OnlyBad number (named_from number table rest)
unfolding named_from column_of
only-named number table rest =
    only-if number (length rest == 0) (done (Table table)) (option_map_or (column_of number table) (after (codes ".") rest) (index_from number table rest >>= λ index. Ok (Index index))) (only-ok number (Table table))
    (only-map number (column_of number table) (after (codes ".") rest) (index_from number table rest >>= λ index. Ok (Index index)) (λ column. only-where number (is_name column) (Column table column))
    (only-bind number (index_from number table rest) (λ (index : IndexName). Ok (Index index)) (only-index number table rest) (λ index. only-ok number (Index index))))

only-must : (number : ℕ) (rest : List ℕ) → OnlyBad number (must number rest)
unfolding must
only-must number rest =
    only-bind number (front_name number rest) (λ (name : Front). index_from number name.0 name.1 >>= λ index. Ok (Must index)) (only-front number rest)
    (λ name. only-bind number (index_from number name.0 name.1) (λ (index : IndexName). Ok (Must index)) (only-index number name.0 name.1) (λ index. only-ok number (Must index)))

only-never : (number : ℕ) (rest : List ℕ) → OnlyBad number (never number rest)
unfolding never
only-never number rest =
    only-bind number (front_name number rest) (λ (name : Front). named_from number name.0 name.1 >>= λ named. Ok (Never named)) (only-front number rest)
    (λ name. only-bind number (named_from number name.0 name.1) (λ (named : Named). Ok (Never named)) (only-named number name.0 name.1) (λ named. only-ok number (Never named)))

-- a line that is read as no rule is told by its number
pub only_bad_lines : (number : ℕ) (line : List ℕ) → OnlyBad number (rule_in number line)
unfolding rule_in spoken
only_bad_lines number line =
    only-if number (is_blank line) (done Blank) (spoken number line) (only-ok number Blank)
    (only-map number (must number) (after (codes "must ") line) (behind number (codes "never ") line >>= never number) (only-must number)
    (only-bind number (behind number (codes "never ") line) (never number) (only-behind number (codes "never ") line) (only-never number)))

-- so is each line that is spelled as none
pub others_bad : (number : ℕ) (line : List ℕ) → ((rule : Rule) → ¬ (IsRule line rule)) → rule_in number line ≡ Err (BadLine number)
others_bad number line none = by (rule_in number line) refl
  where
    by : (r : Result Rule RuleFault) → rule_in number line ≡ r → r ≡ Err (BadLine number)
    by (Ok rule) e = absurd (none rule (rule_spelled number line rule e))
    by (Err fault) e = ap Err (only_bad_lines number line fault e)
