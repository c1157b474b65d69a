-- What a reply and its ending say of the answer.
use Rattle.std.proofs.Common.{◌≡◌, ◌⊎◌, inl, inr, ℕ, Bool, true, false, List, [], ◌∷◌, ◌++◌, map, Option, Some, None, Result, Ok, Err, refl, sym, ap, subst, ◌∙◌}
use Rattle.std.specs.Prelude.{MatchBool}
use Rattle.std.proofs.Math.Path.{fun_ext}
use Rattle.std.proofs.lemmas.List.{append-nil}
use Rattle.adv_shelf.specs.Faults.{Rose}
use Rattle.adv_shelf.specs.Shelf.{Files}
use Rattle.adv_shelf.specs.Sink.{append_to}
use Rattle.adv_shelf.specs.declared.shelf.PutFault.{PutFault}
use Rattle.adv_shelf.specs.declared.shelf.PutFault.TheVariants as faults
use Rattle.report.specs.Advices.{needs_setting}
use Rattle.report.specs.Texts.{done_text}
use Rattle.report.specs.declared.done.Done.{Done}
use Rattle.report.specs.declared.done.Done.TheVariants.{Usage, ReadFault, WriteFault, Refused, Memory, NotProved as NotProvedDone}
use Rattle.report.specs.declared.done.NotProved.{NotProved}
use Rattle.command_line.specs.declared.fault.WordFault.{WordFault}
use Rattle.cophy_core.specs.Answers.{OfSetting, Answers}
use Rattle.cophy_core.specs.commands.{GivesOver, files_put}
use Rattle.cophy_core.specs.Causes.{IsAnswered, IsOrMemory, IsSteady, UsageIsTrue, ReadFaultIsTrue, WriteFaultIsTrue, RefusalIsTrue, MemoryWritesNothing, IsSound, IsWritten, IsBounded, IsUnproved, NotProvedIsTrue}
use Rattle.command_line.specs.CommandLine.{PlainCommand, Check, CheckRuled, command_of}
use Rattle.cophy_core.specs.Endings.{Put, Outside, outside, put_all, put_answer, IsPutFault, IsUnput, EndsWhole, EndsUnput, Ends}
use Rattle.cophy_core.specs.Left.{PutsFileTo, IsCutShort}
use Rattle.cophy_core.specs.Files.{ReadCounts, counts}
use Rattle.cophy_core.specs.Reading.{StopsAtFiles}
use Rattle.cophy_core.specs.Replies.{MayAnswer, MayAnswerWords, ArePuts, ArePutsTo, IsGiven, IsTextOf, IsTextTo, Replies, IsReply, IsRun}
use Rattle.cophy_core.specs.Stops.{done_of}
use Rattle.cophy_core.specs.declared.stop.Stop.{Stop}
use Rattle.cophy_core.specs.declared.stop.Stop.TheVariants as stops
use Rattle.cophy_core.proofs.Answered.{given, IsCommandsOwn}

-- what is put for an answer are the files of the command, or nothing
pub names_of : (test : Bool) (command : PlainCommand) (files : Option Files) (words : List (List ℕ)) (done : Done) (puts : List Put) (text : List ℕ) →
    MatchBool test (OfSetting files command (λ inputs setting. IsGiven command words inputs setting done puts text)) (puts ≡ []) →
    (map (λ put. put.name) puts ≡ files_put command) ⊎ (puts ≡ [])
names_of true command files words done puts text h = inl h.holds.names_are
names_of false command files words done puts text h = inr h

none_named : (puts : List Put) → map (λ put. put.name) puts ≡ [] → puts ≡ []
none_named [] e = refl
none_named (put ∷ puts) e = absurd cc

-- for a command that puts no file nothing is put
pub no_puts : (command : PlainCommand) (files : Option Files) (words : List (List ℕ)) (done : Done) (puts : List Put) (text : List ℕ) → files_put command ≡ [] → ArePuts command files words done puts text → puts ≡ []
no_puts command files words done puts text none h =
    elim (names_of (needs_setting done) command files words done puts text h) [
      | inl named ↦ none_named puts (named ∙ none)
      | inr e ↦ e
    ]

puts_file : (words : Result PlainCommand WordFault) (files : Option Files) (line : List (List ℕ)) (reply : Done) (puts : List Put) (text : List ℕ) → ArePutsTo words files line reply puts text → (puts ≡ [] → ⊥) → PutsFileTo words
puts_file (Ok command) files line reply puts text h some = λ none. some (no_puts command files line reply puts text none h)
puts_file (Err fault) files line reply puts text h some = some h

-- ## Replies

-- an answer of a command that no command gives
no_answer : (command : PlainCommand) (files : Option Files) (done : Done) → OfSetting files command (λ inputs setting. GivesOver command inputs setting done) → IsCommandsOwn done
no_answer command files done h = given command h.inputs h.setting done h.holds

-- a reply is never a write fault
pub no_write_fault : (words : Result PlainCommand WordFault) (files : Option Files) (before after : ReadCounts) → MayAnswerWords words files before after WriteFault → ⊥
no_write_fault (Ok command) files before after h = no_answer command files WriteFault h
no_write_fault (Err fault) files before after h = h

-- a fault of the words is told
pub told_fault : (words : List (List ℕ)) (files : Option Files) (before after : ReadCounts) (fault : WordFault) (done : Done) (puts : List Put) (text : List ℕ) → command_of words ≡ Err fault → (done ≡ Usage fault) ⊎ (done ≡ Memory) → puts ≡ [] → text ≡ done_text words None done → IsReply words files before after done puts text
told_fault words files before after fault done puts text e is none told =
    let may : MayAnswerWords (Err fault) files before after done =
    elim is [
      | inl usage ↦ subst (λ (d : Done). MayAnswerWords (Err fault) files before after d) (sym usage) refl
      | inr memory ↦ subst (λ (d : Done). MayAnswerWords (Err fault) files before after d) (sym memory) tt
    ] in
    record {
      answers = subst (λ (r : Result PlainCommand WordFault). MayAnswerWords r files before after done) (sym e) may;
      puts_are = subst (λ (r : Result PlainCommand WordFault). ArePutsTo r files words done puts text) (sym e) none;
      text_is = subst (λ (r : Result PlainCommand WordFault). IsTextTo r files words done text) (sym e) told;
    }

stop_answer : (command : PlainCommand) (files : Option Files) (before after : ReadCounts) (stop : Stop) → StopsAtFiles command files before after stop → MayAnswer command files before after (done_of stop)
stop_answer command files before after stops.Memory h = tt
stop_answer command files before after (stops.Failed role) h = h
stop_answer command files before after (stops.Refused why) h = h

stop_text : (command : PlainCommand) (files : Option Files) (words : List (List ℕ)) (stop : Stop) (text : List ℕ) → text ≡ done_text words None (done_of stop) → IsTextOf command files words (done_of stop) text
stop_text command files words stops.Memory text e = e
stop_text command files words (stops.Failed role) text e = e
stop_text command files words (stops.Refused why) text e = e

-- the answer to a command
to_words : (words : List (List ℕ)) (command : PlainCommand) (files : Option Files) (before after : ReadCounts) (done : Done) (puts : List Put) (text : List ℕ) → command_of words ≡ Ok command → ArePuts command files words done puts text → MayAnswer command files before after done → IsTextOf command files words done text → IsReply words files before after done puts text
to_words words command files before after done puts text e put may told = record {
  answers = subst (λ (r : Result PlainCommand WordFault). MayAnswerWords r files before after done) (sym e) may;
  puts_are = subst (λ (r : Result PlainCommand WordFault). ArePutsTo r files words done puts text) (sym e) put;
  text_is = subst (λ (r : Result PlainCommand WordFault). IsTextTo r files words done text) (sym e) told;
}

stop_puts : (command : PlainCommand) (files : Option Files) (words : List (List ℕ)) (stop : Stop) (puts : List Put) (text : List ℕ) → puts ≡ [] → ArePuts command files words (done_of stop) puts text
stop_puts command files words stops.Memory puts text none = none
stop_puts command files words (stops.Failed role) puts text none = none
stop_puts command files words (stops.Refused why) puts text none = none

-- why there is no answer is told
pub told_stop : (words : List (List ℕ)) (command : PlainCommand) (files : Option Files) (before after : ReadCounts) (stop : Stop) (done : Done) (puts : List Put) (text : List ℕ) → command_of words ≡ Ok command → StopsAtFiles command files before after stop → (done ≡ done_of stop) ⊎ (done ≡ Memory) → puts ≡ [] → text ≡ done_text words None done → IsReply words files before after done puts text
told_stop words command files before after stop done puts text e h (inl is) none told =
    to_words words command files before after done puts text e
    (subst (λ (d : Done). ArePuts command files words d puts text) (sym is) (stop_puts command files words stop puts text none))
    (subst (λ (d : Done). MayAnswer command files before after d) (sym is) (stop_answer command files before after stop h))
    (subst (λ (d : Done). IsTextOf command files words d text) (sym is) (stop_text command files words stop text (subst (λ (d : Done). text ≡ done_text words None d) is told)))
told_stop words command files before after stop done puts text e h (inr memory) none told =
    to_words words command files before after done puts text e
    (subst (λ (d : Done). ArePuts command files words d puts text) (sym memory) none)
    (subst (λ (d : Done). MayAnswer command files before after d) (sym memory) tt)
    (subst (λ (d : Done). IsTextOf command files words d text) (sym memory) (subst (λ (d : Done). text ≡ done_text words None d) memory told))

may_answer : (command : PlainCommand) (files : Option Files) (before after : ReadCounts) (done : Done) → Answers command files done → MayAnswer command files before after done
may_answer command files before after (ReadFault role) h = absurd (no_answer command files (ReadFault role) h)
may_answer command files before after Memory h = tt
may_answer command files before after done h = h

-- what a command replies
pub told_reply : (words : List (List ℕ)) (command : PlainCommand) (files : Option Files) (before after : ReadCounts) (done : Done) (puts : List Put) (text : List ℕ) → command_of words ≡ Ok command → Replies command files words done puts text → IsReply words files before after done puts text
told_reply words command files before after done puts text e h =
    to_words words command files before after done puts text e h.puts_are (may_answer command files before after done h.answers) h.text_is

-- ## Endings

pub not_nil : (front rest : List Put) (put : Put) → [] ≡ front ++ put ∷ rest → ⊥
not_nil [] rest put e = cc
not_nil (p ∷ ps) rest put e = cc

-- nothing was to be put, so no put failed
pub all_put : (old new : Outside) (puts : List Put) (done : Done) → puts ≡ [] → EndsUnput old new puts done → ⊥
all_put old new puts done none unput = not_nil unput.unput.front unput.unput.rest unput.unput.put (sym none ∙ unput.unput.puts_are)

-- ## Runs

-- the files, and the count of failed puts, are those of the start
from_start : (files moved : Option Files) (before reads : ReadCounts) (put_faults rest : ℕ) (written : Option (List ℕ)) (faults : ℕ) (new : Outside) (told : Done) (puts : List Put) (text : List ℕ) (done : Done) → moved ≡ files → rest ≡ put_faults → Ends (outside moved reads rest written faults) new told puts text done → Ends (outside files before put_faults written faults) new told puts text done
from_start files moved before reads put_faults rest written faults new told puts text done e f (inl whole) =
    inl (record { stands = whole.stands; files_are = whole.files_are ∙ ap (λ (fs : Option Files). put_all fs puts) e; written = whole.written })
from_start files moved before reads put_faults rest written faults new told puts text done e f (inr (inl cut)) =
    inr (inl (record { some = cut.some; fault = cut.fault; rose = cut.rose; files_are = cut.files_are ∙ ap (λ (fs : Option Files). put_all fs puts) e; prefix = cut.prefix }))
from_start files moved before reads put_faults rest written faults new told puts text done e f (inr (inr unput)) =
    let there = subst (λ (fs : Option Files). IsUnput fs new.files rest new.put_faults puts unput.fault) e unput.unput in
    inr (inr (record {
      fault = unput.fault;
      done_is = unput.done_is;
      unput = subst (λ (n : ℕ). IsUnput files new.files n new.put_faults puts unput.fault) f there;
      unwritten = unput.unwritten;
    }))

-- A run that replied to the words and ended so. Its reply left the files and the count of failed puts as they were, and its
-- end the counts of failed reads.
pub run_of : (words : List (List ℕ)) (files moved : Option Files) (before reads : ReadCounts) (put_faults rest : ℕ) (written : Option (List ℕ)) (faults : ℕ) (new : Outside) (told : Done) (puts : List Put) (text : List ℕ) (done : Done) →
    moved ≡ files → rest ≡ put_faults → new.reads ≡ reads → IsReply words files before reads told puts text → Ends (outside moved reads rest written faults) new told puts text done →
    IsRun words (outside files before put_faults written faults) new done
run_of words files moved before reads put_faults rest written faults new told puts text done e f same reply ends = record {
  told = told;
  puts = puts;
  text = text;
  reply_is = subst (λ (r : ReadCounts). IsReply words files before r told puts text) (sym same) reply;
  ends = from_start files moved before reads put_faults rest written faults new told puts text done e f ends;
}

-- the counts of reads are the same
pub same_counts : (all new : ℕ) (at new_at : List ℕ → ℕ) → new ≡ all → ((n : List ℕ) → new_at n ≡ at n) → counts new new_at ≡ counts all at
same_counts all new at new_at e f = ap (λ (n : ℕ). counts n new_at) e ∙ ap (counts all) (fun_ext f)

-- how a run ended: its reply stands, or it was cut short, or it wanted memory for a put
abbrev pub Ended : List (List ℕ) → Outside → Outside → Done → List Put → List ℕ → Done → Type 0
Ended words before after told puts text done =
    EndsWhole before after told puts text done
    ⊎ (((done ≡ WriteFault) × IsCutShort words before after done) ⊎ ((done ≡ Memory) × EndsUnput before after puts done))

put_ends : (fault : PutFault) → (put_answer fault ≡ WriteFault) ⊎ (put_answer fault ≡ Memory)
put_ends faults.Memory = inr refl
put_ends faults.Failed = inl refl

ended_by : (words : List (List ℕ)) (before after : Outside) (told : Done) (puts : List Put) (text : List ℕ) (done : Done) → IsReply words before.files before.reads after.reads told puts text → Ends before after told puts text done → Ended words before after told puts text done
ended_by words before after told puts text done reply (inl whole) = inl whole
ended_by words before after told puts text done reply (inr (inl cut)) =
    inr (inl (cut.fault, record { told = told; puts = puts; text = text; reply_is = reply; ends = inl cut }))
ended_by words before after told puts text done reply (inr (inr unput)) =
    elim (put_ends unput.fault) [
      | inl failed ↦ inr (inl (unput.done_is ∙ failed, record { told = told; puts = puts; text = text; reply_is = reply; ends = inr unput }))
      | inr memory ↦ inr (inr (unput.done_is ∙ memory, unput))
    ]

pub ended : {words : List (List ℕ)} {before after : Outside} {done : Done} (run : IsRun words before after done) → Ended words before after run.told run.puts run.text done
ended {words = words} {before = before} {after = after} {done = done} run =
    ended_by words before after run.told run.puts run.text done run.reply_is run.ends

-- what holds of the reply, of a write fault, and of want of memory holds of the answer
settle_by : (P : Done → Type 0) (words : List (List ℕ)) (before after : Outside) (told : Done) (puts : List Put) (text : List ℕ) (done : Done) → Ended words before after told puts text done → P told → P WriteFault → P Memory → P done
settle_by P words before after told puts text done (inl whole) of_told of_fault of_memory = subst P (sym whole.stands) of_told
settle_by P words before after told puts text done (inr (inl cut)) of_told of_fault of_memory = subst P (sym cut.0) of_fault
settle_by P words before after told puts text done (inr (inr want)) of_told of_fault of_memory = subst P (sym want.0) of_memory

pub settle : {words : List (List ℕ)} {before after : Outside} {done : Done} (P : Done → Type 0) (run : IsRun words before after done) → P run.told → P WriteFault → P Memory → P done
settle {words = words} {before = before} {after = after} {done = done} P run of_told of_fault of_memory =
    settle_by P words before after run.told run.puts run.text done (ended run) of_told of_fault of_memory

reply_answered : (words : Result PlainCommand WordFault) (before after : Outside) (told : Done) → MayAnswerWords words before.files before.reads after.reads told → IsAnswered words before after told
reply_answered words before after WriteFault h = tt
reply_answered words before after told h = h

memory_answered : (words : Result PlainCommand WordFault) (before after : Outside) → IsAnswered words before after Memory
memory_answered (Ok command) before after = tt
memory_answered (Err fault) before after = tt

pub answer : {words : List (List ℕ)} {before after : Outside} {done : Done} → IsRun words before after done → IsAnswered (command_of words) before after done
answer {words = words} {before = before} {after = after} run =
    settle (IsAnswered (command_of words) before after) run (reply_answered (command_of words) before after run.told run.reply_is.answers) tt (memory_answered (command_of words) before after)

-- a write fault is that of the sink, or of a put
put_rose : (before after : Option Files) (a b : ℕ) (put : Put) (fault : PutFault) → put_answer fault ≡ WriteFault → IsPutFault fault before after a b put → Rose a b
put_rose before after a b put faults.Memory e h = absurd cc
put_rose before after a b put faults.Failed e h = h.1

caused : (read : Result PlainCommand WordFault) (words : List (List ℕ)) (before after : Outside) (told : Done) (puts : List Put) (text : List ℕ) (done : Done) →
    MayAnswerWords read before.files before.reads after.reads told → ArePutsTo read before.files words told puts text → Ends before after told puts text done → done ≡ WriteFault → WriteFaultIsTrue read before after WriteFault
caused read words before after told puts text done may put (inl whole) is =
    absurd (no_write_fault read before.files before.reads after.reads (subst (MayAnswerWords read before.files before.reads after.reads) (sym whole.stands ∙ is) may))
caused read words before after told puts text done may put (inr (inl cut)) is = inl cut.rose
caused read words before after told puts text done may put (inr (inr unput)) is =
    let u = unput.unput in
    inr (
      puts_file read before.files words told puts text put (λ none. all_put before after puts done none unput),
      put_rose (put_all before.files u.front) after.files before.put_faults after.put_faults u.put unput.fault (sym unput.done_is ∙ is) u.files_are,
    )

-- of no other answer anything is said
fault_alone : (words : Result PlainCommand WordFault) (before after : Outside) (done : Done) → (done ≡ WriteFault → WriteFaultIsTrue words before after WriteFault) → WriteFaultIsTrue words before after done
fault_alone words before after WriteFault h = h refl
fault_alone words before after done h = tt

pub write_fault : {words : List (List ℕ)} {before after : Outside} {done : Done} → IsRun words before after done → WriteFaultIsTrue (command_of words) before after done
write_fault {words = words} {before = before} {after = after} {done = done} run =
    fault_alone (command_of words) before after done
    (caused (command_of words) words before after run.told run.puts run.text done run.reply_is.answers run.reply_is.puts_are run.ends)

-- ## Rows of causes

usage_of : (words : Result PlainCommand WordFault) (before after : Outside) (done : Done) → IsAnswered words before after done → UsageIsTrue words done
usage_of (Ok command) before after (Usage fault) h = absurd (no_answer command before.files (Usage fault) h)
usage_of (Err fault) before after (Usage told) h = ap Err (sym h)
usage_of words before after done h = tt

pub usage : {words : List (List ℕ)} {before after : Outside} {done : Done} → IsRun words before after done → UsageIsTrue (command_of words) done
usage {words = words} {before = before} {after = after} {done = done} run = usage_of (command_of words) before after done (answer run)

told_usage : (words : Result PlainCommand WordFault) (before after : Outside) (fault : WordFault) (done : Done) → words ≡ Err fault → IsSteady before.faults after.faults → WriteFaultIsTrue words before after done → IsAnswered words before after done → IsOrMemory (Usage fault) done
told_usage (Ok command) before after fault done e steady w h = absurd cc
told_usage (Err f) before after fault WriteFault e steady w h = absurd (elim w [ inl rose ↦ steady rose | inr put ↦ put.0 ])
told_usage (Err f) before after fault (Usage told) e steady w h = let same : f ≡ fault = cc in inl (ap Usage (h ∙ same))
told_usage (Err f) before after fault Memory e steady w h = inr refl
told_usage (Err f) before after fault done e steady w h = absurd h

pub usage_always : {words : List (List ℕ)} {before after : Outside} {done : Done} → IsRun words before after done → (fault : WordFault) → command_of words ≡ Err fault → IsSteady before.faults after.faults → IsOrMemory (Usage fault) done
usage_always {words = words} {before = before} {after = after} {done = done} run fault is steady =
    told_usage (command_of words) before after fault done is steady (write_fault run) (answer run)

read_fault_of : (words : Result PlainCommand WordFault) (before after : Outside) (done : Done) → IsAnswered words before after done → ReadFaultIsTrue words before after done
read_fault_of (Ok command) before after (ReadFault role) h = (command, refl, h)
read_fault_of (Err fault) before after (ReadFault role) h = absurd h
read_fault_of words before after done h = tt

pub read_fault : {words : List (List ℕ)} {before after : Outside} {done : Done} → IsRun words before after done → ReadFaultIsTrue (command_of words) before after done
read_fault {words = words} {before = before} {after = after} {done = done} run = read_fault_of (command_of words) before after done (answer run)

refused_of : (words : Result PlainCommand WordFault) (before after : Outside) (done : Done) → IsAnswered words before after done → RefusalIsTrue words before.files done
refused_of (Ok command) before after (Refused why) h = (command, refl, h)
refused_of (Err fault) before after (Refused why) h = absurd h
refused_of words before after done h = tt

pub refused : {words : List (List ℕ)} {before after : Outside} {done : Done} → IsRun words before after done → RefusalIsTrue (command_of words) before.files done
refused {words = words} {before = before} {after = after} {done = done} run = refused_of (command_of words) before after done (answer run)

-- a command whose files prove nothing is `check` or `check-ruled`
unproved : (command : PlainCommand) (files : Option Files) (why : NotProved) → Answers command files (NotProvedDone why) → IsUnproved (Ok command) files why
unproved (Check cat load cert) files why h = record { command = Check cat load cert; words_are = refl; first = h }
unproved (CheckRuled cat load rules cert) files why h =
    let is = h.holds in
    record {
      command = CheckRuled cat load rules cert;
      words_are = refl;
      first = record {
        inputs = h.inputs;
        setting = h.setting;
        left_over = h.left_over;
        inputs_are = h.inputs_are;
        setting_is = h.setting_is;
        holds = record { root = is.root; root_is = is.root_is; first = is.gives };
      };
    }
unproved command files why h = absurd h.holds

not_proved_of : (words : Result PlainCommand WordFault) (before after : Outside) (done : Done) → IsAnswered words before after done → NotProvedIsTrue words before.files done
not_proved_of (Ok command) before after (NotProvedDone why) h = unproved command before.files why h
not_proved_of (Err fault) before after (NotProvedDone why) h = absurd h
not_proved_of words before after done h = tt

pub not_proved : {words : List (List ℕ)} {before after : Outside} {done : Done} → IsRun words before after done → NotProvedIsTrue (command_of words) before.files done
not_proved {words = words} {before = before} {after = after} {done = done} run = not_proved_of (command_of words) before after done (answer run)

-- what was answered to a command
pub to_command : {words : List (List ℕ)} {before after : Outside} {done : Done} (command : PlainCommand) → command_of words ≡ Ok command → IsRun words before after done → IsAnswered (Ok command) before after done
to_command {words = words} {before = before} {after = after} {done = done} command is run =
    subst (λ (w : Result PlainCommand WordFault). IsAnswered w before after done) is (answer run)

sound_of : (command : PlainCommand) (before after : Outside) (done : Done) → IsAnswered (Ok command) before after done → IsSound command before.files done
sound_of command before after (ReadFault role) h = tt
sound_of command before after WriteFault h = tt
sound_of command before after Memory h = tt
sound_of command before after done h = h

pub soundness : {words : List (List ℕ)} {before after : Outside} {done : Done} → IsRun words before after done → (command : PlainCommand) → command_of words ≡ Ok command → IsSound command before.files done
soundness {before = before} {after = after} {done = done} run command is = sound_of command before after done (to_command command is run)

complete_of : (words : Result PlainCommand WordFault) (command : PlainCommand) (before after : Outside) (done : Done) → IsSteady before.reads.all after.reads.all → IsSteady before.put_faults after.put_faults → IsSteady before.faults after.faults → WriteFaultIsTrue words before after done → IsAnswered (Ok command) before after done → Answers command before.files done ⊎ (done ≡ Memory)
complete_of words command before after (ReadFault role) reads put writes w h = absurd (reads h.bad.failed.rose)
complete_of words command before after WriteFault reads put writes w h = absurd (elim w [ inl rose ↦ writes rose | inr failed ↦ put failed.1 ])
complete_of words command before after Memory reads put writes w h = inr refl
complete_of words command before after done reads put writes w h = inl h

pub completeness : {words : List (List ℕ)} {before after : Outside} {done : Done} → IsRun words before after done → (command : PlainCommand) → command_of words ≡ Ok command → IsSteady before.reads.all after.reads.all → IsSteady before.put_faults after.put_faults → IsSteady before.faults after.faults → Answers command before.files done ⊎ (done ≡ Memory)
completeness {words = words} {before = before} {after = after} {done = done} run command is reads put writes =
    complete_of (command_of words) command before after done reads put writes (write_fault run) (to_command command is run)

-- ## What is written

no_text : (words : Result PlainCommand WordFault) (files : Option Files) (line : List (List ℕ)) (text : List ℕ) → IsTextTo words files line Memory text → text ≡ []
no_text (Ok command) files line text h = h
no_text (Err fault) files line text h = h

no_words : (words : Result PlainCommand WordFault) (files : Option Files) (line : List (List ℕ)) → IsTextTo words files line Memory []
no_words (Ok command) files line = refl
no_words (Err fault) files line = refl

nothing_more : (old : Option (List ℕ)) → append_to old [] ≡ old
nothing_more None = refl
nothing_more (Some bytes) = ap Some (append-nil bytes)

-- the text of an answer that stands
whole_text : (words : List (List ℕ)) (before after : Outside) (told : Done) (text : List ℕ) → MayAnswerWords (command_of words) before.files before.reads after.reads told → IsTextTo (command_of words) before.files words told text → after.written ≡ append_to before.written text → IsWritten words before after told
whole_text words before after WriteFault text h is written = absurd (no_write_fault (command_of words) before.files before.reads after.reads h)
whole_text words before after told text h is written = (text, (is, written))

text_by : (words : List (List ℕ)) (before after : Outside) (told : Done) (puts : List Put) (text : List ℕ) (done : Done) → IsReply words before.files before.reads after.reads told puts text → Ended words before after told puts text done → IsWritten words before after done
text_by words before after told puts text done reply (inl whole) =
    subst (IsWritten words before after) (sym whole.stands) (whole_text words before after told text reply.answers reply.text_is whole.written)
text_by words before after told puts text done reply (inr (inl cut)) =
    subst (IsWritten words before after) (sym cut.0) (subst (IsCutShort words before after) cut.0 cut.1)
text_by words before after told puts text done reply (inr (inr want)) =
    subst (IsWritten words before after) (sym want.0) ([], (no_words (command_of words) before.files words, want.1.unwritten ∙ sym (nothing_more before.written)))

pub text_written : {words : List (List ℕ)} {before after : Outside} {done : Done} → IsRun words before after done → IsWritten words before after done
text_written {words = words} {before = before} {after = after} {done = done} run =
    text_by words before after run.told run.puts run.text done run.reply_is (ended run)

silent : (words : Result PlainCommand WordFault) (files : Option Files) (line : List (List ℕ)) (old new : Option (List ℕ)) (told : Done) (text : List ℕ) → IsTextTo words files line told text → new ≡ append_to old text → MemoryWritesNothing old new told
silent words files line old new Memory text is written = written ∙ (ap (append_to old) (no_text words files line text is) ∙ nothing_more old)
silent words files line old new told text is written = tt

memory_by : (words : List (List ℕ)) (before after : Outside) (told : Done) (puts : List Put) (text : List ℕ) (done : Done) → IsReply words before.files before.reads after.reads told puts text → Ended words before after told puts text done → MemoryWritesNothing before.written after.written done
memory_by words before after told puts text done reply (inl whole) =
    subst (MemoryWritesNothing before.written after.written) (sym whole.stands) (silent (command_of words) before.files words before.written after.written told text reply.text_is whole.written)
memory_by words before after told puts text done reply (inr (inl cut)) = subst (MemoryWritesNothing before.written after.written) (sym cut.0) tt
memory_by words before after told puts text done reply (inr (inr want)) = subst (MemoryWritesNothing before.written after.written) (sym want.0) want.1.unwritten

pub memory : {words : List (List ℕ)} {before after : Outside} {done : Done} → IsRun words before after done → MemoryWritesNothing before.written after.written done
memory {words = words} {before = before} {after = after} {done = done} run =
    memory_by words before after run.told run.puts run.text done run.reply_is (ended run)

bound_put : (fault : PutFault) → IsBounded (put_answer fault)
bound_put faults.Memory = tt
bound_put faults.Failed = tt

pub bound : (before after : Outside) (told : Done) (puts : List Put) (text : List ℕ) (done : Done) → Ends before after told puts text done → IsBounded told → IsBounded done
bound before after told puts text done (inl whole) low = subst IsBounded (sym whole.stands) low
bound before after told puts text done (inr (inl cut)) low = subst IsBounded (sym cut.fault) tt
bound before after told puts text done (inr (inr unput)) low = subst IsBounded (sym unput.done_is) (bound_put unput.fault)
