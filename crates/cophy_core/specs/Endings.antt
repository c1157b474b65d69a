-- How a run ends: files are put, one after the other, and then the text is written.
use Rattle.std.specs.Prelude.{◌≡◌, ℕ, ◌<◌, ◌⊎◌, List, [], ◌∷◌, ◌++◌, length, map, Option, string_bytes}
use Rattle.adv_shelf.specs.Faults.{Rose}
use Rattle.adv_shelf.specs.Shelf.{Files, IsPutInPart, put_file}
use Rattle.adv_shelf.specs.Sink.{append_to, AppendsPrefix}
use Rattle.report.specs.declared.done.Done.{Done}
use Rattle.report.specs.declared.done.Done.TheVariants.{WriteFault, Memory}
use Rattle.adv_shelf.specs.declared.shelf.PutFault.{PutFault}
use Rattle.adv_shelf.specs.declared.shelf.PutFault.TheVariants as faults
use Rattle.cophy_core.specs.declared.worked.FilePut.{FilePut}
use Rattle.cophy_core.specs.Files.{ReadCounts}

-- a file to be put
pub record Put : Type 0 where
  pub name : List ℕ
  pub bytes : List ℕ

abbrev pub plain_puts : List FilePut → List Put
plain_puts puts = map (λ put. record { name = string_bytes put.name; bytes = put.bytes }) puts

-- the files after these were put, in turn
abbrev pub put_all : Option Files → List Put → Option Files
put_all files [] = files
put_all files (put ∷ puts) = put_all (put_file files put.name put.bytes) puts

-- what a run finds or leaves: the shelf's files, its counts of failed reads and of failed puts, the bytes on the sink, and
-- its count of failed writes
pub record Outside : Type 0 where
  pub files : Option Files
  pub reads : ReadCounts
  pub put_faults : ℕ
  pub written : Option (List ℕ)
  pub faults : ℕ

abbrev pub outside : Option Files → ReadCounts → ℕ → Option (List ℕ) → ℕ → Outside
outside files reads put_faults written faults =
    record { files = files; reads = reads; put_faults = put_faults; written = written; faults = faults }

-- all files were put and all of the text was written, and the answer stands
pub record EndsWhole (before after : Outside) (reply : Done) (puts : List Put) (text : List ℕ) (done : Done) : Type 0 where
  pub stands : done ≡ reply
  pub files_are : after.files ≡ put_all before.files puts
  pub written : after.written ≡ append_to before.written text

-- all files were put, and a write of the text, of which there is some, failed behind a prefix of it
pub record EndsUnwritten (before after : Outside) (puts : List Put) (text : List ℕ) (done : Done) : Type 0 where
  pub some : 0 < length text
  pub fault : done ≡ WriteFault
  pub rose : Rose before.faults after.faults
  pub files_are : after.files ≡ put_all before.files puts
  pub prefix : AppendsPrefix before.written after.written text

-- A put failed: the files before it are whole, its own is old or in part. Or it wanted memory, and its own is as it was.
abbrev pub IsPutFault : PutFault → Option Files → Option Files → ℕ → ℕ → Put → Type 0
IsPutFault faults.Memory before after put_faults_before put_faults_after put = after ≡ before
IsPutFault faults.Failed before after put_faults_before put_faults_after put =
    IsPutInPart before after put.name put.bytes × Rose put_faults_before put_faults_after

-- one of the puts did not go through
pub record IsUnput (before after : Option Files) (put_faults_before put_faults_after : ℕ) (puts : List Put) (fault : PutFault) : Type 0 where
  pub front : List Put
  pub put : Put
  pub rest : List Put
  pub puts_are : puts ≡ front ++ put ∷ rest
  pub files_are : IsPutFault fault (put_all before front) after put_faults_before put_faults_after put

-- the answer where a put did not go through
abbrev pub put_answer : PutFault → Done
put_answer faults.Memory = Memory
put_answer faults.Failed = WriteFault

-- a put did not go through, and nothing was written
pub record EndsUnput (before after : Outside) (puts : List Put) (done : Done) : Type 0 where
  pub fault : PutFault
  pub done_is : done ≡ put_answer fault
  pub unput : IsUnput before.files after.files before.put_faults after.put_faults puts fault
  pub unwritten : after.written ≡ before.written

-- how a reply ends
abbrev pub Ends : Outside → Outside → Done → List Put → List ℕ → Done → Type 0
Ends before after reply puts text done =
    EndsWhole before after reply puts text done ⊎ (EndsUnwritten before after puts text done
    ⊎ EndsUnput before after puts done)
