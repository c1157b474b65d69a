-- Files read in a row.
use Rattle.std.proofs.Common.{◌≡◌, ℕ, ◌<◌, ◌≤◌, List, [], ◌∷◌, ◌++◌, length, Option, Some, refl, subst, arith}
use Rattle.std.specs.FinMap.{get}
use Rattle.adv_shelf.proofs.CallerLemmas.{told_fact, rose_later}
use Rattle.adv_shelf.specs.Shelf.{Files, HasFile}
use Rattle.report.specs.declared.done.Refusal.TheVariants.{TooLong}
use Rattle.cophy_core.specs.declared.stop.Stop.{Stop}
use Rattle.cophy_core.specs.declared.stop.Stop.TheVariants.{Memory, Failed, Refused}
use Rattle.cophy_core.specs.Files.{InputFile, IsInput, AreInputs, ReadCounts}
use Rattle.cophy_core.specs.Reading.{IsUnreadFile, StopsReading}

-- one file more
pub AreInputs-more : (files : Option Files) (uses : List InputFile) (inputs : List (List ℕ)) (file : InputFile) (bytes : List ℕ) → AreInputs files uses inputs → IsInput files file bytes → AreInputs files (uses ++ file ∷ []) (inputs ++ bytes ∷ [])
AreInputs-more files [] [] file bytes all one = (one, tt)
AreInputs-more files [] (b ∷ bs) file bytes all one = absurd all
AreInputs-more files (u ∷ us) [] file bytes all one = absurd all
AreInputs-more files (u ∷ us) (b ∷ bs) file bytes all one = (all.0, AreInputs-more files us bs file bytes all.1 one)

-- a file that is told isn't both longer than its limit and whole within it
pub not_long_and_whole : (files : Files) (file : InputFile) (bytes : List ℕ) → IsInput (Some files) file bytes → HasFile (Some files) file.name (λ b. file.most < length b) → ⊥
not_long_and_whole files file bytes is long =
    let over = told_fact (Some files) files file.name bytes (λ b. file.most < length b) refl is.whole long in
    let within = is.short in
    absurd (omega (arith, over, within))

-- and has one content
pub one_content : (files : Files) (file : InputFile) (a b : List ℕ) → IsInput (Some files) file a → IsInput (Some files) file b → a ≡ b
one_content files file a b x y =
    let there : get files file.name ≡ Some a = x.whole in
    let here : get files file.name ≡ Some b = y.whole in
    cc

-- so has each of them
pub one_each : (files : Files) (uses : List InputFile) (xs ys : List (List ℕ)) → AreInputs (Some files) uses xs → AreInputs (Some files) uses ys → xs ≡ ys
one_each files [] [] [] a b = refl
one_each files [] [] (y ∷ ys) a b = absurd b
one_each files [] (x ∷ xs) ys a b = absurd a
one_each files (u ∷ us) [] ys a b = absurd a
one_each files (u ∷ us) (x ∷ xs) [] a b = absurd b
one_each files (u ∷ us) (x ∷ xs) (y ∷ ys) a b =
    let first = one_content files u x y a.0 b.0 in
    let rest = one_each files us xs ys a.1 b.1 in
    cc

-- files that are whole have no long one among them
pub none_long : (files : Files) (front rest : List InputFile) (file : InputFile) (inputs : List (List ℕ)) → AreInputs (Some files) (front ++ file ∷ rest) inputs → HasFile (Some files) file.name (λ b. file.most < length b) → ⊥
none_long files [] rest file [] are long = are
none_long files [] rest file (b ∷ bs) are long = not_long_and_whole files file b are.0 long
none_long files (f ∷ front) rest file [] are long = are
none_long files (f ∷ front) rest file (b ∷ bs) are long = none_long files front rest file bs are.1 long

-- one of them is the first that is long
pub one_long : (files : Files) (front ahead rest more : List InputFile) (file other : InputFile) (xs ys : List (List ℕ)) → front ++ file ∷ rest ≡ ahead ++ other ∷ more → AreInputs (Some files) front xs → AreInputs (Some files) ahead ys → HasFile (Some files) file.name (λ b. file.most < length b) → HasFile (Some files) other.name (λ b. other.most < length b) → file ≡ other
one_long files [] [] rest more file other xs ys e a b long far = cc
one_long files [] (g ∷ ahead) rest more file other xs [] e a b long far = absurd b
one_long files [] (g ∷ ahead) rest more file other xs (y ∷ ys) e a b long far =
    let same : file ≡ g = cc in
    absurd (not_long_and_whole files g y b.0 (subst (λ (f : InputFile). HasFile (Some files) f.name (λ c. f.most < length c)) same long))
one_long files (f ∷ front) [] rest more file other [] ys e a b long far = absurd a
one_long files (f ∷ front) [] rest more file other (x ∷ xs) ys e a b long far =
    let same : other ≡ f = cc in
    absurd (not_long_and_whole files f x a.0 (subst (λ (g : InputFile). HasFile (Some files) g.name (λ c. g.most < length c)) same far))
one_long files (f ∷ front) (g ∷ ahead) rest more file other [] ys e a b long far = absurd a
one_long files (f ∷ front) (g ∷ ahead) rest more file other (x ∷ xs) [] e a b long far = absurd b
one_long files (f ∷ front) (g ∷ ahead) rest more file other (x ∷ xs) (y ∷ ys) e a b long far =
    let behind : front ++ file ∷ rest ≡ ahead ++ other ∷ more = cc in
    one_long files front ahead rest more file other xs ys behind a.1 b.1 long far

-- the file behind a front of readable ones stops the reading
pub first_stops : (files : Option Files) (uses front rest : List InputFile) (file : InputFile) (inputs : List (List ℕ)) (start before after : ReadCounts) (stop : Stop) → uses ≡ front ++ file ∷ rest → AreInputs files front inputs → start.all ≤ before.all → ((n : List ℕ) → start.at n ≤ before.at n) → IsUnreadFile files before after file stop → StopsReading files uses start after stop
first_stops files uses front rest file inputs start before after Memory e are all at h = tt
first_stops files uses front rest file inputs start before after (Failed role) e are all at h =
    record {
      front = front;
      file = file;
      rest = rest;
      inputs = inputs;
      uses_are = e;
      earlier = are;
      bad = record {
        role_is = h.role_is;
        failed = record {
          rose = rose_later start.all before.all after.all all h.failed.rose;
          rose_at = rose_later (start.at file.name) (before.at file.name) (after.at file.name) (at file.name) h.failed.rose_at;
        };
      };
    }
first_stops files uses front rest file inputs start before after (Refused (TooLong role)) e are all at h =
    record { front = front; file = file; rest = rest; inputs = inputs; uses_are = e; earlier = are; bad = h }
first_stops files uses front rest file inputs start before after (Refused why) e are all at h = absurd h
