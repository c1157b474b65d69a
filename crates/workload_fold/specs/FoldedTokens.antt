-- The tokens of the text of a folded workload.
use Rattle.std.specs.Prelude.{◌≡◌, ℕ, ◌≤◌, All, List, [], ◌∷◌, ◌++◌, codes, decimal}
use Rattle.adv_base.specs.declared.limits.TheConstants.{MOST_WEIGHT}
use Rattle.sql_tokens.specs.Cut.{AreTokens}
use Rattle.sql_tokens.specs.declared.token.Token.{Token}
use Rattle.sql_tokens.specs.declared.token.TokenKind.TheVariants as kind
use Rattle.sql_reader.specs.Terminals.{bytes_of}
use Rattle.sql_reader.specs.declared.parsed.ParsedStatement.{ParsedStatement}
use Rattle.workload_fold.specs.Pairs.{Pairs}
use Rattle.workload_fold.specs.Places.{Texts}
use Rattle.workload_fold.specs.Texts.{statement_tokens, place_of_number, folded_text}

-- a token of each of two texts, of one kind and spelling
pub record SameToken (t : Texts) (x y : Token) : Type 0 where
  pub kind : x.kind ≡ y.kind
  pub bytes : bytes_of t.one x ≡ bytes_of t.other y

-- the comment `-- weight W`
abbrev pub weight_comment : ℕ → List ℕ
weight_comment weight = codes "-- weight " ++ decimal weight

-- the tokens of a group: the comment of its weight, the tokens of its first statement, and `;`
pub record IsGroup (t : Texts) (own : List Token) (weight : ℕ) (mark : Token) (copies : List Token) (end : Token) : Type 0 where
  pub mark_kind : mark.kind ≡ kind.Weight
  pub mark_bytes : bytes_of t.other mark ≡ weight_comment weight
  pub same : Pairs (SameToken t) own copies
  pub end_kind : end.kind ≡ kind.Symbol
  pub end_bytes : bytes_of t.other end ≡ 59 ∷ []

-- the tokens of all groups, by the numbers of their first statements and their weights
abbrev pub AreGroups : Texts → List ParsedStatement → List ℕ → List ℕ → List Token → Type 0
AreGroups t statements [] weights tokens = tokens ≡ []
AreGroups t statements (n ∷ ns) [] tokens = tokens ≡ []
AreGroups t statements (n ∷ ns) (w ∷ ws) tokens =
    (mark end : Token) × (copies rest : List Token) × (tokens ≡ mark ∷ (copies ++ end ∷ rest))
    × IsGroup t (statement_tokens t.one (place_of_number statements n)) w mark copies end × AreGroups t statements ns ws rest

-- a text and what is folded of it
abbrev pub with_folded : List ℕ → List ParsedStatement → List ℕ → List ℕ → Texts
with_folded text statements first weights = record { one = text; other = folded_text text statements first weights }

-- a folded text is cut into the tokens of its groups, and no others
abbrev pub FoldedTokens : Type 0
FoldedTokens =
    (text : List ℕ) (statements : List ParsedStatement) (first weights : List ℕ) → All (λ w. w ≤ MOST_WEIGHT) weights →
    (tokens : List Token) × AreTokens (folded_text text statements first weights) tokens
    × AreGroups (with_folded text statements first weights) statements first weights tokens
