-- Laws of what is written so far.
use Rattle.std.proofs.Common.{◌≡◌, ℕ, Bool, true, false, if◌then◌else◌, List, [], ◌∷◌, ap, ◌∙◌}
use Rattle.sql_tokens.specs.declared.token.Token.{Token}
use Rattle.sql_reader.specs.Terminals.{is_weight}
use Rattle.workload_fold.specs.Texts.{is_semicolon, own_tokens}

-- a weight is passed over
pub own_weight : (text : List ℕ) (t : Token) (ts more : List Token) → ts ≡ t ∷ more → is_weight t.kind ≡ true → own_tokens text ts ≡ own_tokens text more
own_weight text t ts more is weight =
    ap (own_tokens text) is ∙ ap (λ (b : Bool). if b then own_tokens text more else if is_semicolon text t then [] else t ∷ own_tokens text more) weight

-- a semicolon ends the statement
pub own_ends : (text : List ℕ) (t : Token) (ts more : List Token) → ts ≡ t ∷ more → is_weight t.kind ≡ false → is_semicolon text t ≡ true → own_tokens text ts ≡ []
own_ends text t ts more is other ends =
    ap (own_tokens text) is
    ∙ ap (λ (b : Bool). if b then own_tokens text more else if is_semicolon text t then [] else t ∷ own_tokens text more) other
    ∙ ap (λ (b : Bool). if b then [] else t ∷ own_tokens text more) ends

-- any other token is its own
pub own_goes : (text : List ℕ) (t : Token) (ts more : List Token) → ts ≡ t ∷ more → is_weight t.kind ≡ false → is_semicolon text t ≡ false → own_tokens text ts ≡ t ∷ own_tokens text more
own_goes text t ts more is other goes =
    ap (own_tokens text) is
    ∙ ap (λ (b : Bool). if b then own_tokens text more else if is_semicolon text t then [] else t ∷ own_tokens text more) other
    ∙ ap (λ (b : Bool). if b then [] else t ∷ own_tokens text more) goes
