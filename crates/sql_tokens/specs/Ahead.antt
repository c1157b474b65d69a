-- What a reader of a text has before it: the tokens behind a place, up to the end of the text or its first fault.
use Rattle.std.specs.Prelude.{◌≡◌, ℕ, zero, suc, ◌+◌, List, [], ◌∷◌, ◌++◌, length, take, drop, Option, Some, None, Result, Ok, Err}
use Rattle.std.specs.Option.{option_to_list}
use Rattle.sql_tokens.specs.Front.{front}
use Rattle.sql_tokens.specs.Cut.{AreTokens, HasFault, tokens_before, tokens_of_lexeme, fault_at}
use Rattle.sql_tokens.specs.declared.token.Token.{Token}
use Rattle.sql_tokens.specs.declared.token_list.TokenFault.{TokenFault}
use Rattle.sql_tokens.specs.declared.lexeme.Lexeme.{Lexeme}
use Rattle.sql_tokens.specs.declared.lexeme.NoLexeme.{NoLexeme}

-- tokens, and the fault behind them, if there is one
pub record Ahead : Type 0 where
  pub tokens : List Token
  pub fault : Option TokenFault

abbrev pub nothing : Ahead
nothing = record { tokens = []; fault = None }

abbrev pub only_fault : TokenFault → Ahead
only_fault fault = record { tokens = []; fault = Some fault }

abbrev pub behind_tokens : List Token → Ahead → Ahead
behind_tokens tokens more = record { tokens = tokens ++ more.tokens; fault = more.fault }

-- what comes with the lexeme at the front, behind so many bytes
abbrev pub with_lexeme : ℕ → List ℕ → (ℕ → List ℕ → Ahead) → Result Lexeme NoLexeme → Ahead
with_lexeme at rest behind (Ok p) = behind_tokens (tokens_of_lexeme at p.form (take p.length rest)) (behind (at + p.length) (drop p.length rest))
with_lexeme at rest behind (Err stop) = only_fault (fault_at at stop)

-- what comes in a rest of at most n bytes, behind so many others
abbrev pub ahead_in : ℕ → ℕ → List ℕ → Ahead
ahead_in zero at rest = nothing
ahead_in (suc n) at [] = nothing
ahead_in (suc n) at (b ∷ bs) = with_lexeme at (b ∷ bs) (ahead_in n) (front (b ∷ bs))

-- what comes behind so many bytes of a text
unfoldable pub ahead : List ℕ → ℕ → Ahead
ahead text at = ahead_in (length text) at (drop at text)

-- one lexeme was read, or what is ahead stays, where there is none
abbrev pub IsLexeme : Ahead → Result (Option Token) TokenFault → Ahead → Type 0
IsLexeme old (Ok token) new = old ≡ behind_tokens (option_to_list token) new
IsLexeme old (Err fault) new = (old ≡ only_fault fault) × (new ≡ old)

-- the next token was read, or what is ahead stays, where there is none
abbrev pub IsNext : Ahead → Result (Option Token) TokenFault → Ahead → Type 0
IsNext old (Ok (Some token)) new = old ≡ behind_tokens (token ∷ []) new
IsNext old (Ok None) new = (old ≡ nothing) × (new ≡ old)
IsNext old (Err fault) new = (old ≡ only_fault fault) × (new ≡ old)

-- the tokens are those of a text without a fault, or else the text has the fault, and they are those before it
abbrev pub Tells : List ℕ → List Token → Option TokenFault → Type 0
Tells text tokens None = AreTokens text tokens
Tells text tokens (Some fault) = (has : HasFault text fault) × (tokens ≡ tokens_before text fault has)
