-- Files that a command may read, and what they hold.
use Rattle.std.specs.Prelude.{◌≡◌, ℕ, ◌<◌, ◌≤◌, List, [], ◌∷◌, ◌++◌, length, map, slice_index_or, Option}
use Rattle.adv_base.specs.declared.limits.TheConstants.{MOST_FILE_BYTES}
use Rattle.adv_shelf.specs.Faults.{Rose}
use Rattle.adv_shelf.specs.Shelf.{Files, HasFile, IsFile}
use Rattle.report.specs.declared.done.Role.{Role}
use Rattle.report.specs.declared.done.Role.TheVariants.{Catalogue, Workload, Third}
use Rattle.cophy_core.specs.declared.files.FileUse.{FileUse}

-- a file that a command reads: in which role, by what name, and of how many bytes at most
pub record InputFile : Type 0 where
  pub role : Role
  pub name : List ℕ
  pub most : ℕ

abbrev pub input_file : Role → List ℕ → ℕ → InputFile
input_file role name most = record { role = role; name = name; most = most }

abbrev pub plain_uses : List FileUse → List InputFile
plain_uses uses = map (λ file. input_file file.role file.name.now file.most) uses

-- the catalogue and the workload that a setting is read from
abbrev pub setting_files : List ℕ → List ℕ → List InputFile
setting_files cat load = input_file Catalogue cat MOST_FILE_BYTES ∷ input_file Workload load MOST_FILE_BYTES ∷ []

-- and a configuration, rules or edits behind them
abbrev pub three_files : List ℕ → List ℕ → List ℕ → List InputFile
three_files cat load third = setting_files cat load ++ input_file Third third MOST_FILE_BYTES ∷ []

-- where the shelf tells its files, these bytes are the whole file, and no longer than its limit
pub record IsInput (files : Option Files) (file : InputFile) (bytes : List ℕ) : Type 0 where
  pub whole : IsFile files file.name bytes
  pub short : length bytes ≤ file.most

-- some such bytes have P
abbrev pub SomeInput : Option Files → InputFile → (List ℕ → Type 0) → Type 0
SomeInput files file P = (bytes : List ℕ) × IsInput files file bytes × P bytes

-- these bytes are so for each of the files
abbrev pub AreInputs : Option Files → List InputFile → List (List ℕ) → Type 0
AreInputs files [] [] = Unit {0}
AreInputs files (file ∷ more) (bytes ∷ inputs) = IsInput files file bytes × AreInputs files more inputs
AreInputs files more inputs = ⊥

-- the bytes of the file of a number, from 0
abbrev pub input : List (List ℕ) → ℕ → List ℕ
input inputs at = slice_index_or inputs at []

-- of the files that a command reads, this is the first that can't be taken whole, and it has P
pub record IsFirstBad (files : Option Files) (uses : List InputFile) (P : InputFile → Type 0) : Type 0 where
  pub front : List InputFile
  pub file : InputFile
  pub rest : List InputFile
  pub inputs : List (List ℕ)
  pub uses_are : uses ≡ front ++ file ∷ rest
  pub earlier : AreInputs files front inputs
  pub bad : P file

-- how many reads have failed: in all, and of the file of each name
pub record ReadCounts : Type 0 where
  pub all : ℕ
  pub at : List ℕ → ℕ

abbrev pub counts : ℕ → (List ℕ → ℕ) → ReadCounts
counts all at = record { all = all; at = at }

-- the counts rose, that of all reads and that of the file of this name
pub record RoseAt (before after : ReadCounts) (name : List ℕ) : Type 0 where
  pub rose : Rose before.all after.all
  pub rose_at : Rose (before.at name) (after.at name)

-- the file has this role, and a read of it failed
pub record IsUnread (before after : ReadCounts) (role : Role) (file : InputFile) : Type 0 where
  pub role_is : role ≡ file.role
  pub failed : RoseAt before after file.name

-- the file has this role, and is longer than its limit
pub record IsLong (files : Option Files) (role : Role) (file : InputFile) : Type 0 where
  pub role_is : role ≡ file.role
  pub long : HasFile files file.name (λ bytes. file.most < length bytes)

-- a read of the file in a role failed, and it is the first file with a fault
abbrev pub IsReadFault : Option Files → List InputFile → ReadCounts → ReadCounts → Role → Type 0
IsReadFault files uses before after role = IsFirstBad files uses (IsUnread before after role)

-- the file in a role is longer than its limit, and it is the first file with a fault
abbrev pub IsTooLong : Option Files → List InputFile → Role → Type 0
IsTooLong files uses role = IsFirstBad files uses (IsLong files role)
