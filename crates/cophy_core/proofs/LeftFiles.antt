-- What a run leaves of the files.
use Rattle.std.proofs.Common.{◌≡◌, ◌⊎◌, inl, inr, ℕ, Bool, true, false, List, [], ◌∷◌, ◌++◌, map, Option, Result, Ok, Err, refl, sym, ap, subst, ◌∙◌}
use Rattle.std.specs.Prelude.{MatchBool}
use Rattle.adv_shelf.specs.declared.shelf.PutFault.{PutFault}
use Rattle.adv_shelf.specs.declared.shelf.PutFault.TheVariants as faults
use Rattle.adv_shelf.specs.Shelf.{Files}
use Rattle.report.specs.Advices.{needs_setting}
use Rattle.report.specs.declared.done.Done.{Done}
use Rattle.report.specs.declared.done.Done.TheVariants.{WriteFault, Memory}
use Rattle.command_line.specs.declared.fault.WordFault.{WordFault}
use Rattle.cophy_core.specs.Answers.{OfSetting}
use Rattle.cophy_core.specs.commands.{files_put}
use Rattle.command_line.specs.CommandLine.{PlainCommand, command_of}
use Rattle.cophy_core.specs.Endings.{Put, Outside, put_all, put_answer, IsPutFault, EndsUnput, Ends}
use Rattle.cophy_core.specs.Left.{IsCutShort, IsPut, LeavesFront, Leaves, LeavesFilesTo, LeavesFiles}
use Rattle.cophy_core.specs.Replies.{MayAnswerWords, ArePuts, ArePutsTo, IsGiven, IsReply, IsRun}
use Rattle.cophy_core.proofs.CauseLemmas.{all_put, no_puts, names_of, no_write_fault, Ended, ended}

-- ## Nothing is put

files_stay : (words : List (List ℕ)) (before after : Outside) (told : Done) (puts : List Put) (text : List ℕ) (done : Done) → puts ≡ [] → Ends before after told puts text done → after.files ≡ before.files
files_stay words before after told puts text done none (inl whole) = whole.files_are ∙ ap (put_all before.files) none
files_stay words before after told puts text done none (inr (inl cut)) = cut.files_are ∙ ap (put_all before.files) none
files_stay words before after told puts text done none (inr (inr unput)) = absurd (all_put before after puts done none unput)

-- ## One file is put

-- one put at most has none before it
none_before : (front rest : List Put) (put : Put) (name : List ℕ) → map (λ put. put.name) (front ++ put ∷ rest) ≡ name ∷ [] → front ≡ []
none_before [] rest put name e = refl
none_before (first ∷ []) rest put name e = absurd cc
none_before (first ∷ second ∷ front) rest put name e = absurd cc

unput_front : (before after : Option Files) (a b : ℕ) (put : Put) (fault : PutFault) → put_answer fault ≡ Memory → IsPutFault fault before after a b put → after ≡ before
unput_front before after a b put faults.Memory e h = h
unput_front before after a b put faults.Failed e h = absurd cc

-- so want of memory leaves the files as they were
one_stays : (name : List ℕ) (before after : Outside) (puts : List Put) (done : Done) → (map (λ put. put.name) puts ≡ name ∷ []) ⊎ (puts ≡ []) → done ≡ Memory → EndsUnput before after puts done → after.files ≡ before.files
one_stays name before after puts done (inr none) is unput = absurd (all_put before after puts done none unput)
one_stays name before after puts done (inl named) is unput =
    let u = unput.unput in
    let same : u.front ≡ [] = none_before u.front u.rest u.put name (ap (map (λ (put : Put). put.name)) (sym u.puts_are) ∙ named) in
    unput_front (put_all before.files u.front) after.files before.put_faults after.put_faults u.put unput.fault (sym unput.done_is ∙ is) u.files_are
    ∙ ap (put_all before.files) same

-- ## Files are put

-- an answer for which its files were put
put_by : (test : Bool) (command : PlainCommand) (words : List (List ℕ)) (before after : Option Files) (done : Done) (puts : List Put) (text : List ℕ) → needs_setting done ≡ test → ArePuts command before words done puts text → after ≡ put_all before puts → MatchBool test (IsPut command words before after done) (after ≡ before)
put_by true command words before after done puts text is h e = record { puts = puts; text = text; puts_are = h; files_are = e }
put_by false command words before after done puts text is h e =
    let none : puts ≡ [] = subst (λ (test : Bool). MatchBool test (OfSetting before command (λ inputs setting. IsGiven command words inputs setting done puts text)) (puts ≡ [])) is h in
    e ∙ ap (put_all before) none

-- want of memory before anything was put
stays_front : (names words : List (List ℕ)) (before after : Outside) → after.files ≡ before.files → LeavesFront names words before after
stays_front [] words before after e = e
stays_front (name ∷ []) words before after e = e
stays_front (first ∷ second ∷ names) words before after e = inl e

left_whole : (name : List ℕ) (names : List (List ℕ)) (command : PlainCommand) (words : List (List ℕ)) (before after : Outside) (told : Done) (puts : List Put) (text : List ℕ) → MayAnswerWords (Ok command) before.files before.reads after.reads told → ArePuts command before.files words told puts text → after.files ≡ put_all before.files puts → Leaves (name ∷ names) command words before after told
left_whole name names command words before after WriteFault puts text may h e = absurd (no_write_fault (Ok command) before.files before.reads after.reads may)
left_whole name names command words before after Memory puts text may h e = stays_front (name ∷ names) words before after (e ∙ ap (put_all before.files) h)
left_whole name names command words before after told puts text may h e = put_by (needs_setting told) command words before.files after.files told puts text refl h e

left_front : (name : List ℕ) (names : List (List ℕ)) (words : List (List ℕ)) (before after : Outside) (puts : List Put) (done : Done) → (map (λ put. put.name) puts ≡ name ∷ names) ⊎ (puts ≡ []) → done ≡ Memory → EndsUnput before after puts done → IsCutShort words before after done → LeavesFront (name ∷ names) words before after
left_front name [] words before after puts done named is unput cut = one_stays name before after puts done named is unput
left_front name (other ∷ names) words before after puts done named is unput cut = inr (subst (IsCutShort words before after) is cut)

left_named : (name : List ℕ) (names : List (List ℕ)) (command : PlainCommand) (words : List (List ℕ)) (before after : Outside) (told : Done) (puts : List Put) (text : List ℕ) (done : Done) → (map (λ put. put.name) puts ≡ name ∷ names) ⊎ (puts ≡ []) → MayAnswerWords (Ok command) before.files before.reads after.reads told → ArePuts command before.files words told puts text → IsReply words before.files before.reads after.reads told puts text → Ended words before after told puts text done → Leaves (name ∷ names) command words before after done
left_named name names command words before after told puts text done named may h reply (inl whole) =
    subst (Leaves (name ∷ names) command words before after) (sym whole.stands) (left_whole name names command words before after told puts text may h whole.files_are)
left_named name names command words before after told puts text done named may h reply (inr (inl cut)) =
    subst (Leaves (name ∷ names) command words before after) (sym cut.0) (subst (IsCutShort words before after) cut.0 cut.1)
left_named name names command words before after told puts text done named may h reply (inr (inr want)) =
    subst (Leaves (name ∷ names) command words before after) (sym want.0)
    (left_front name names words before after puts done named want.0 want.1 (record { told = told; puts = puts; text = text; reply_is = reply; ends = inr want.1 }))

-- ## The whole

left_command : (names : List (List ℕ)) (command : PlainCommand) (words : List (List ℕ)) (before after : Outside) (told : Done) (puts : List Put) (text : List ℕ) (done : Done) → files_put command ≡ names → MayAnswerWords (Ok command) before.files before.reads after.reads told → ArePuts command before.files words told puts text → IsReply words before.files before.reads after.reads told puts text → Ends before after told puts text done → Ended words before after told puts text done → Leaves names command words before after done
left_command [] command words before after told puts text done are may h reply ends how =
    files_stay words before after told puts text done (no_puts command before.files words told puts text are h) ends
left_command (name ∷ names) command words before after told puts text done are may h reply ends how =
    let named = subst (λ (ns : List (List ℕ)). (map (λ put. put.name) puts ≡ ns) ⊎ (puts ≡ [])) are (names_of (needs_setting told) command before.files words told puts text h) in
    left_named name names command words before after told puts text done named may h reply how

left_words : (read : Result PlainCommand WordFault) (words : List (List ℕ)) (before after : Outside) (told : Done) (puts : List Put) (text : List ℕ) (done : Done) → MayAnswerWords read before.files before.reads after.reads told → ArePutsTo read before.files words told puts text → IsReply words before.files before.reads after.reads told puts text → Ends before after told puts text done → Ended words before after told puts text done → LeavesFilesTo read words before after done
left_words (Ok command) words before after told puts text done may h reply ends how =
    left_command (files_put command) command words before after told puts text done refl may h reply ends how
left_words (Err fault) words before after told puts text done may h reply ends how = files_stay words before after told puts text done h ends

pub left : {words : List (List ℕ)} {before after : Outside} {done : Done} → IsRun words before after done → LeavesFiles words before after done
left {words = words} {before = before} {after = after} {done = done} run =
    left_words (command_of words) words before after run.told run.puts run.text done run.reply_is.answers run.reply_is.puts_are run.reply_is run.ends (ended run)
