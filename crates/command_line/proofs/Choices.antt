-- The options of a search behind its plain words.
use Rattle.std.proofs.Common.{◌≡◌, ◌∙◌, ◌⊎◌, inl, inr, ℕ, suc, ◌+◌, ◌≤◌, Bool, true, false, cond, ◌&&◌, List, [], ◌∷◌, ◌++◌, length, codes, nat_eq, Option, Some, None, Result, Ok, Err, refl, sym, ap, subst, arith}
use Rattle.std.specs.Prelude.{decimal, option_to_list, is_some}
use Rattle.std.specs.List.{starts_with}
use Rattle.std.specs.Str.{bytes_eq}
use Rattle.std.proofs.lemmas.List.{append_assoc, length-append}
use Rattle.std.proofs.lemmas.Slice.Eq.{bytes_eq-Decides}
use Rattle.adv_base.specs.Readings.{◌>>=◌}
use Rattle.command_line.specs.declared.fault.WordFault.{WordFault}
use Rattle.command_line.specs.declared.fault.WordFault.TheVariants.{Extra, Twice, UnknownOption, Missing}
use Rattle.command_line.specs.CommandLine.{PlainOptions, no_options, word_at, number_at, nodes_option, cert_option, option_of, option_at, options_from}
use Rattle.command_line.specs.Spellings.{IsWithin, Choice, Nodes, Cert, words_of, Choose, IsAllowed}
use Rattle.command_line.proofs.OptionLaws.{options_from-end, options_from-next}
use Rattle.command_line.proofs.Results.{pick, pick_else, not_ok, bind_ok}
use Rattle.command_line.proofs.WordLaws.{one_longer, moved, word_is, no_word, number_here, within}

-- ## One option

-- what options say behind one more choice
abbrev added : Choice → PlainOptions → PlainOptions
added (Nodes n) given = record { nodes = Some n; cert = given.cert }
added (Cert name) given = record { nodes = given.nodes; cert = Some name }

-- a choice that is one here, and wasn't given yet
abbrev IsNew : Bool → Choice → PlainOptions → Type 0
IsNew certifies (Nodes n) given = (given.nodes ≡ None) × IsWithin 1 1000000 n
IsNew certifies (Cert name) given = (certifies ≡ true) × (given.cert ≡ None)

-- the word behind the next
next_word : (front : List (List ℕ)) (p w : List ℕ) (back : List (List ℕ)) → word_at (front ++ p ∷ w ∷ back) (suc (length front) + 1) ≡ Ok w
next_word front p w back =
    let place : suc (length front) + 1 ≡ suc (suc (length front)) = omega arith in
    let is = rw (moved front p (w ∷ back), one_longer front p) at (word_is (front ++ p ∷ []) w back) in
    rw place is

next_no_word : (front : List (List ℕ)) (p : List ℕ) → word_at (front ++ p ∷ []) (suc (length front) + 1) ≡ Err (Missing (suc (suc (length front))))
next_no_word front p =
    let place : suc (length front) + 1 ≡ suc (suc (length front)) = omega arith in
    let is = rw (moved front p [], one_longer front p) at (no_word (front ++ p ∷ [])) in
    rw place is

next_number : (front : List (List ℕ)) (p w : List ℕ) (back : List (List ℕ)) (n : ℕ) → number_at (front ++ p ∷ w ∷ back) (suc (length front) + 1) 1 1000000 ≡ Ok n →
    (w ≡ decimal n) × IsWithin 1 1000000 n
unfolding number_at
next_number front p w back n e =
    within (suc (length front) + 1) 1 1000000 w n (rw (next_word front p w back) at e)

next_no_number : (front : List (List ℕ)) (p : List ℕ) (n : ℕ) → number_at (front ++ p ∷ []) (suc (length front) + 1) 1 1000000 ≡ Ok n → ⊥
unfolding number_at
next_no_number front p n e = not_ok (Missing (suc (suc (length front)))) n (rw (next_no_word front p) at e)

next_number_here : (front : List (List ℕ)) (p : List ℕ) (n : ℕ) (back : List (List ℕ)) → IsWithin 1 1000000 n → number_at (front ++ p ∷ decimal n ∷ back) (suc (length front) + 1) 1 1000000 ≡ Ok n
next_number_here front p n back is =
    let place : suc (length front) + 1 ≡ suc (suc (length front)) = omega arith in
    let here = rw (moved front p (decimal n ∷ back), one_longer front p) at (number_here (front ++ p ∷ []) n back 1 1000000 (omega arith) is) in
    rw place here

option_adds : (certifies : Bool) (front : List (List ℕ)) (choice : Choice) (back : List (List ℕ)) (given : PlainOptions) → IsNew certifies choice given →
    option_at certifies (front ++ (words_of (choice ∷ []) ++ back)) (suc (length front)) given ≡ Ok (added choice given)
unfolding option_at
option_adds certifies front (Nodes n) back given new =
    rw (word_is front (codes "--nodes") (decimal n ∷ back), new.0, next_number_here front (codes "--nodes") n back new.1)
option_adds certifies front (Cert name) back given new =
    rw (word_is front (codes "--cert") (name ∷ back), new.0, new.1, next_word front (codes "--cert") name back)

is_none : {A : Type 0} (o : Option A) → is_some o ≡ false → o ≡ None
is_none None e = refl
is_none (Some x) e = absurd cc

unknown : {A : Type 0} (b : Bool) (f g : WordFault) (c : A) → cond b (Err f) (Err g) ≡ Ok c → ⊥
unknown true f g c e = not_ok f c e
unknown false f g c e = not_ok g c e

named : (word name : List ℕ) → bytes_eq word name ≡ true → word ≡ name
named word name e = (bytes_eq-Decides word name).0 e

and_true : (a b : Bool) → (a && b) ≡ true → (a ≡ true) × (b ≡ true)
and_true true b e = (refl, e)
and_true false b e = absurd cc

-- a choice, what stands behind it, and what options say then
abbrev IsOption : Bool → List (List ℕ) → PlainOptions → PlainOptions → Type 0
IsOption certifies words given next =
    (choice : Choice) × (back : List (List ℕ)) × ((words ≡ words_of (choice ∷ []) ++ back) × (IsNew certifies choice given × (next ≡ added choice given)))

nodes_read : (certifies : Bool) (front : List (List ℕ)) (p : List ℕ) (more : List (List ℕ)) (given next : PlainOptions) → p ≡ codes "--nodes" → given.nodes ≡ None → (n : ℕ) →
    number_at (front ++ p ∷ more) (suc (length front) + 1) 1 1000000 ≡ Ok n → next ≡ record { nodes = Some n; cert = given.cert } → IsOption certifies (p ∷ more) given next
nodes_read certifies front p [] given next is none n e same = absurd (next_no_number front p n e)
nodes_read certifies front p (v ∷ back) given next is none n e same =
    let number = next_number front p v back n e in
    let line : p ∷ v ∷ back ≡ codes "--nodes" ∷ decimal n ∷ back = cc (is, number.0) in
    (Nodes n, back, (line, ((none, number.1), same)))

cert_read : (certifies : Bool) (front : List (List ℕ)) (p : List ℕ) (more : List (List ℕ)) (given next : PlainOptions) → p ≡ codes "--cert" → certifies ≡ true → given.cert ≡ None → (name : List ℕ) →
    word_at (front ++ p ∷ more) (suc (length front) + 1) ≡ Ok name → next ≡ record { nodes = given.nodes; cert = Some name } → IsOption certifies (p ∷ more) given next
cert_read certifies front p [] given next is may none name e same = absurd (not_ok (Missing (suc (suc (length front)))) name (rw (next_no_word front p) at e))
cert_read certifies front p (v ∷ back) given next is may none name e same =
    let value : v ≡ name = let h = rw (next_word front p v back) at e in cc in
    let line : p ∷ v ∷ back ≡ codes "--cert" ∷ name ∷ back = cc (is, value) in
    (Cert name, back, (line, ((may, none), same)))

option_read : (certifies : Bool) (front : List (List ℕ)) (p : List ℕ) (more : List (List ℕ)) (given next : PlainOptions) →
    option_at certifies (front ++ p ∷ more) (suc (length front)) given ≡ Ok next → IsOption certifies (p ∷ more) given next
unfolding option_at
option_read certifies front p more given next e =
    let words = front ++ p ∷ more in
    let k = suc (length front) in
    let at : option_of certifies words k given p ≡ Ok next = rw (word_is front p more) at e in
    elim (pick (bytes_eq p (codes "--nodes")) (nodes_option words k given) _ next at) [
      | inl nodes ↦
          let first = pick_else (is_some given.nodes) (Twice k) _ next nodes.1 in
          let value = bind_ok (number_at words (k + 1) 1 1000000) _ next first.1 in
          let same : record { nodes = Some value.0; cert = given.cert } ≡ next = cc in
          nodes_read certifies front p more given next (named p (codes "--nodes") nodes.0) (is_none given.nodes first.0) value.0 value.1.0 (sym same)
      | inr other ↦
          elim (pick (certifies && bytes_eq p (codes "--cert")) (cert_option words k given) _ next other) [
            | inl cert ↦
                let both = and_true certifies (bytes_eq p (codes "--cert")) cert.0 in
                let first = pick_else (is_some given.cert) (Twice k) _ next cert.1 in
                let value = bind_ok (word_at words (k + 1)) _ next first.1 in
                let same : record { nodes = given.nodes; cert = Some value.0 } ≡ next = cc in
                cert_read certifies front p more given next (named p (codes "--cert") both.1) both.0 (is_none given.cert first.0) value.0 value.1.0 (sym same)
            | inr none ↦ absurd (unknown (starts_with nat_eq p (codes "--")) (UnknownOption k) (Extra k) next none)
          ]
    ]

-- ## One turn

two_longer : (front : List (List ℕ)) (choice : Choice) → length (front ++ words_of (choice ∷ [])) ≡ suc (suc (length front))
two_longer front (Nodes n) = let is = length-append front (codes "--nodes" ∷ decimal n ∷ []) in omega (arith, is)
two_longer front (Cert name) = let is = length-append front (codes "--cert" ∷ name ∷ []) in omega (arith, is)

long : (front : List (List ℕ)) (choice : Choice) (back : List (List ℕ)) → suc (length front) ≤ length (front ++ (words_of (choice ∷ []) ++ back))
long front (Nodes n) back = let is = length-append front (codes "--nodes" ∷ decimal n ∷ back) in omega (arith, is)
long front (Cert name) back = let is = length-append front (codes "--cert" ∷ name ∷ back) in omega (arith, is)

-- what is read behind an option
behind : (certifies : Bool) (front : List (List ℕ)) (choice : Choice) (back : List (List ℕ)) (turns : ℕ) (given : PlainOptions) →
    options_from certifies (front ++ (words_of (choice ∷ []) ++ back)) turns (suc (length front) + 2) given
    ≡ options_from certifies ((front ++ words_of (choice ∷ [])) ++ back) turns (suc (length (front ++ words_of (choice ∷ [])))) given
behind certifies front choice back turns given =
    let place : suc (length front) + 2 ≡ suc (suc (suc (length front))) = omega arith in
    rw (append_assoc front (words_of (choice ∷ [])) back, two_longer front choice, place)

turn_reads : (certifies : Bool) (front : List (List ℕ)) (choice : Choice) (back : List (List ℕ)) (turns : ℕ) (given : PlainOptions) → IsNew certifies choice given →
    options_from certifies (front ++ (words_of (choice ∷ []) ++ back)) (suc turns) (suc (length front)) given
    ≡ options_from certifies ((front ++ words_of (choice ∷ [])) ++ back) turns (suc (length (front ++ words_of (choice ∷ [])))) (added choice given)
turn_reads certifies front choice back turns given new =
    let words = front ++ (words_of (choice ∷ []) ++ back) in
    let next = options_from-next certifies words turns (suc (length front)) given (long front choice back) in
    let read = ap (λ (r : Result PlainOptions WordFault). r >>= options_from certifies words turns (suc (length front) + 2)) (option_adds certifies front choice back given new) in
    next ∙ read ∙ behind certifies front choice back turns (added choice given)

end_reads : (certifies : Bool) (front : List (List ℕ)) (turns : ℕ) (given : PlainOptions) → options_from certifies (front ++ []) (suc turns) (suc (length front)) given ≡ Ok given
end_reads certifies front turns given =
    let is = length-append front [] in
    options_from-end certifies (front ++ []) turns (suc (length front)) given (omega (arith, is))

-- no option is left, or one, and those behind it
abbrev IsTurn : Bool → List (List ℕ) → List (List ℕ) → ℕ → PlainOptions → PlainOptions → Type 0
IsTurn certifies front words turns given last =
    ((words ≡ []) × (given ≡ last))
    ⊎ ((choice : Choice) × (back : List (List ℕ)) × ((words ≡ words_of (choice ∷ []) ++ back) × (IsNew certifies choice given
    × (options_from certifies ((front ++ words_of (choice ∷ [])) ++ back) turns (suc (length (front ++ words_of (choice ∷ [])))) (added choice given) ≡ Ok last))))

turn_back : (certifies : Bool) (front words : List (List ℕ)) (turns : ℕ) (given last : PlainOptions) → options_from certifies (front ++ words) (suc turns) (suc (length front)) given ≡ Ok last →
    IsTurn certifies front words turns given last
turn_back certifies front [] turns given last e =
    let is : Ok given ≡ Ok last = sym (end_reads certifies front turns given) ∙ e in
    inl (refl, cc)
turn_back certifies front (p ∷ more) turns given last e =
    let is = length-append front (p ∷ more) in
    let next = options_from-next certifies (front ++ p ∷ more) turns (suc (length front)) given (omega (arith, is)) in
    let read = bind_ok (option_at certifies (front ++ p ∷ more) (suc (length front)) given) (options_from certifies (front ++ p ∷ more) turns (suc (length front) + 2)) last (sym next ∙ e) in
    let option = option_read certifies front p more given read.0 read.1.0 in
    let left : options_from certifies (front ++ (words_of (option.0 ∷ []) ++ option.1)) turns (suc (length front) + 2) (added option.0 given) ≡ Ok last =
    ap (λ (o : PlainOptions). options_from certifies (front ++ (words_of (option.0 ∷ []) ++ option.1)) turns (suc (length front) + 2) o) (sym option.2.1.1)
    ∙ (ap (λ (xs : List (List ℕ)). options_from certifies (front ++ xs) turns (suc (length front) + 2) read.0) (sym option.2.0) ∙ read.1.1) in
    inr (option.0, option.1, (option.2.0, (option.2.1.0, sym (behind certifies front option.0 option.1 turns (added option.0 given)) ∙ left)))

-- ## All options

one_given : {A : Type 0} (o : Option A) (x : A) → x ∷ [] ≡ option_to_list o → o ≡ Some x
one_given None x e = absurd cc
one_given (Some y) x e = let same : x ≡ y = cc in ap Some (sym same)

none_given : {A : Type 0} (o : Option A) → [] ≡ option_to_list o → o ≡ None
none_given None e = refl
none_given (Some y) e = absurd cc

two_given : {A : Type 0} (o : Option A) (x y : A) (xs : List A) → x ∷ y ∷ xs ≡ option_to_list o → ⊥
two_given None x y xs e = cc
two_given (Some z) x y xs e = cc

none_reads : (certifies : Bool) (plain : List (List ℕ)) → options_from certifies (plain ++ words_of []) 3 (suc (length plain)) no_options ≡ Ok no_options
none_reads certifies plain = end_reads certifies plain 2 no_options

one_reads : (certifies : Bool) (plain : List (List ℕ)) (one : Choice) → IsNew certifies one no_options → options_from certifies (plain ++ (words_of (one ∷ []) ++ [])) 3 (suc (length plain)) no_options ≡ Ok (added one no_options)
one_reads certifies plain one new =
    turn_reads certifies plain one [] 2 no_options new ∙ end_reads certifies (plain ++ words_of (one ∷ [])) 1 (added one no_options)

two_reads : (certifies : Bool) (plain : List (List ℕ)) (one two : Choice) → IsNew certifies one no_options → IsNew certifies two (added one no_options) →
    options_from certifies (plain ++ (words_of (one ∷ []) ++ (words_of (two ∷ []) ++ []))) 3 (suc (length plain)) no_options ≡ Ok (added two (added one no_options))
two_reads certifies plain one two new newer =
    turn_reads certifies plain one (words_of (two ∷ []) ++ []) 2 no_options new
    ∙ turn_reads certifies (plain ++ words_of (one ∷ [])) two [] 1 (added one no_options) newer
    ∙ end_reads certifies ((plain ++ words_of (one ∷ [])) ++ words_of (two ∷ [])) 0 (added two (added one no_options))

-- what options choose, where a certificate is allowed or not
abbrev IsChosen : Bool → List Choice → PlainOptions → Type 0
IsChosen certifies choices said = Choose choices said.nodes said.cert × IsAllowed certifies said.cert

-- what options choose is read
pub chosen_reads : (certifies : Bool) (plain : List (List ℕ)) (choices : List Choice) (given : Option ℕ) (cert : Option (List ℕ)) → IsAllowed certifies cert → Choose choices given cert →
    options_from certifies (plain ++ words_of choices) 3 (suc (length plain)) no_options ≡ Ok (record { nodes = given; cert = cert })
chosen_reads certifies plain [] given cert may h = rw (none_given given h.nodes_once, none_given cert h.cert_once) (none_reads certifies plain)
chosen_reads certifies plain (Nodes n ∷ []) given cert may h =
    let is : given ≡ Some n = one_given given n h.nodes_once in
    rw (is, none_given cert h.cert_once) (one_reads certifies plain (Nodes n) (refl, rw is at h.range))
chosen_reads certifies plain (Cert name ∷ []) given cert may h =
    let named : cert ≡ Some name = one_given cert name h.cert_once in
    rw (none_given given h.nodes_once, named) (one_reads certifies plain (Cert name) (may (ap is_some named), refl))
chosen_reads certifies plain (Nodes n ∷ Nodes m ∷ choices) given cert may h = absurd (two_given given n m _ h.nodes_once)
chosen_reads certifies plain (Cert name ∷ Cert other ∷ choices) given cert may h = absurd (two_given cert name other _ h.cert_once)
chosen_reads certifies plain (Nodes n ∷ Cert name ∷ []) given cert may h =
    let is : given ≡ Some n = one_given given n h.nodes_once in
    let named : cert ≡ Some name = one_given cert name h.cert_once in
    rw (is, named) (two_reads certifies plain (Nodes n) (Cert name) (refl, rw is at h.range) (may (ap is_some named), refl))
chosen_reads certifies plain (Cert name ∷ Nodes n ∷ []) given cert may h =
    let is : given ≡ Some n = one_given given n h.nodes_once in
    let named : cert ≡ Some name = one_given cert name h.cert_once in
    rw (is, named) (two_reads certifies plain (Cert name) (Nodes n) (may (ap is_some named), refl) (refl, rw is at h.range))
chosen_reads certifies plain (Nodes n ∷ Cert name ∷ Nodes m ∷ choices) given cert may h = absurd (two_given given n m _ h.nodes_once)
chosen_reads certifies plain (Nodes n ∷ Cert name ∷ Cert other ∷ choices) given cert may h = absurd (two_given cert name other _ h.cert_once)
chosen_reads certifies plain (Cert name ∷ Nodes n ∷ Nodes m ∷ choices) given cert may h = absurd (two_given given n m _ h.nodes_once)
chosen_reads certifies plain (Cert name ∷ Nodes n ∷ Cert other ∷ choices) given cert may h = absurd (two_given cert name other _ h.cert_once)

one_chosen : (certifies : Bool) (one : Choice) → IsNew certifies one no_options → IsChosen certifies (one ∷ []) (added one no_options)
one_chosen certifies (Nodes n) new = (record { nodes_once = refl; cert_once = refl; range = new.1 }, λ e. absurd cc)
one_chosen certifies (Cert name) new = (record { nodes_once = refl; cert_once = refl; range = tt }, λ e. new.0)

two_chosen : (certifies : Bool) (one two : Choice) → IsNew certifies one no_options → IsNew certifies two (added one no_options) → IsChosen certifies (one ∷ two ∷ []) (added two (added one no_options))
two_chosen certifies (Nodes n) (Nodes m) new newer = absurd (let e : Some n ≡ None = newer.0 in cc)
two_chosen certifies (Nodes n) (Cert name) new newer = (record { nodes_once = refl; cert_once = refl; range = new.1 }, λ e. newer.0)
two_chosen certifies (Cert name) (Nodes n) new newer = (record { nodes_once = refl; cert_once = refl; range = newer.1 }, λ e. new.0)
two_chosen certifies (Cert name) (Cert other) new newer = absurd (let e : Some name ≡ None = newer.1 in cc)

no_third : (certifies : Bool) (one two three : Choice) → IsNew certifies one no_options → IsNew certifies two (added one no_options) → IsNew certifies three (added two (added one no_options)) → ⊥
no_third certifies (Nodes n) (Nodes m) three new newer newest = let e : Some n ≡ None = newer.0 in cc
no_third certifies (Nodes n) (Cert name) (Nodes m) new newer newest = let e : Some n ≡ None = newest.0 in cc
no_third certifies (Nodes n) (Cert name) (Cert other) new newer newest = let e : Some name ≡ None = newest.1 in cc
no_third certifies (Cert name) (Nodes n) (Nodes m) new newer newest = let e : Some n ≡ None = newest.0 in cc
no_third certifies (Cert name) (Nodes n) (Cert other) new newer newest = let e : Some name ≡ None = newest.1 in cc
no_third certifies (Cert name) (Cert other) three new newer newest = let e : Some name ≡ None = newer.1 in cc

words_of_two : (one two : Choice) → words_of (one ∷ two ∷ []) ≡ words_of (one ∷ []) ++ words_of (two ∷ [])
words_of_two (Nodes n) two = refl
words_of_two (Cert name) two = refl

-- choices that words are, with what they say
abbrev AreChoices : Bool → List (List ℕ) → PlainOptions → Type 0
AreChoices certifies words last = (choices : List Choice) × ((words ≡ words_of choices) × IsChosen certifies choices last)

chosen_as : (certifies : Bool) (words : List (List ℕ)) (choices : List Choice) (said last : PlainOptions) → words ≡ words_of choices → IsChosen certifies choices said → said ≡ last → AreChoices certifies words last
chosen_as certifies words choices said last line chosen is = (choices, (line, subst (IsChosen certifies choices) is chosen))

second_back : (certifies : Bool) (plain words back : List (List ℕ)) (one : Choice) (last : PlainOptions) → words ≡ words_of (one ∷ []) ++ back → IsNew certifies one no_options →
    IsTurn certifies (plain ++ words_of (one ∷ [])) back 1 (added one no_options) last → AreChoices certifies words last
second_back certifies plain words back one last line new (inl end) =
    chosen_as certifies words (one ∷ []) (added one no_options) last (line ∙ ap (λ (xs : List (List ℕ)). words_of (one ∷ []) ++ xs) end.0 ∙ no_words one) (one_chosen certifies one new) end.1
  where
    no_words : (one : Choice) → words_of (one ∷ []) ++ [] ≡ words_of (one ∷ [])
    no_words (Nodes n) = refl
    no_words (Cert name) = refl
second_back certifies plain words back one last line new (inr two) =
    third_back (turn_back certifies (plain ++ words_of (one ∷ []) ++ words_of (two.0 ∷ [])) two.1 0 (added two.0 (added one no_options)) last two.2.1.1)
  where
    no_words : (one : Choice) → words_of (one ∷ []) ++ [] ≡ words_of (one ∷ [])
    no_words (Nodes n) = refl
    no_words (Cert name) = refl

    third_back : IsTurn certifies (plain ++ words_of (one ∷ []) ++ words_of (two.0 ∷ [])) two.1 0 (added two.0 (added one no_options)) last → AreChoices certifies words last
    third_back (inl end) =
        let behind_two : words_of (two.0 ∷ []) ++ two.1 ≡ words_of (two.0 ∷ []) = ap (λ (xs : List (List ℕ)). words_of (two.0 ∷ []) ++ xs) end.0 ∙ no_words two.0 in
        let all = line ∙ ap (λ (xs : List (List ℕ)). words_of (one ∷ []) ++ xs) (two.2.0 ∙ behind_two) ∙ sym (words_of_two one two.0) in
        chosen_as certifies words (one ∷ two.0 ∷ []) (added two.0 (added one no_options)) last all (two_chosen certifies one two.0 new two.2.1.0) end.1
    third_back (inr three) = absurd (no_third certifies one two.0 three.0 new two.2.1.0 three.2.1.0)

-- what is read was chosen
pub chosen_back : (certifies : Bool) (plain words : List (List ℕ)) (last : PlainOptions) → options_from certifies (plain ++ words) 3 (suc (length plain)) no_options ≡ Ok last →
    (choices : List Choice) × ((words ≡ words_of choices) × (Choose choices last.nodes last.cert × IsAllowed certifies last.cert))
chosen_back certifies plain words last e = first_back (turn_back certifies plain words 2 no_options last e)
  where
    first_back : IsTurn certifies plain words 2 no_options last → AreChoices certifies words last
    first_back (inl end) = chosen_as certifies words [] no_options last end.0 (record { nodes_once = refl; cert_once = refl; range = tt }, λ e. absurd cc) end.1
    first_back (inr one) =
        second_back certifies plain words one.1 one.0 last one.2.0 one.2.1.0 (turn_back certifies (plain ++ words_of (one.0 ∷ [])) one.1 1 (added one.0 no_options) last one.2.1.1)
