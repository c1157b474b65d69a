-- Files put in a row.
use Rattle.std.proofs.Common.{◌≡◌, ℕ, ◌≤◌, List, [], ◌∷◌, ◌++◌, Option, Result, Err, refl}
use Rattle.adv_shelf.specs.Faults.{Rose}
use Rattle.adv_shelf.specs.declared.shelf.PutFault.{PutFault}
use Rattle.adv_shelf.specs.declared.shelf.PutFault.TheVariants.{Memory, Failed}
use Rattle.adv_shelf.specs.Shelf.{Files, IsPutInPart, put_file}
use Rattle.adv_shelf.proofs.CallerLemmas.{rose_later}
use Rattle.cophy_core.specs.Endings.{Put, put_all, IsPutFault}

-- one file more
pub put_all-more : (files : Option Files) (puts : List Put) (put : Put) → put_all files (puts ++ put ∷ []) ≡ put_file (put_all files puts) put.name put.bytes
put_all-more files [] put = refl
put_all-more files (p ∷ ps) put = put_all-more (put_file files p.name p.bytes) ps put

-- a put that did not go through
pub put_faulted : {A : Type 0} (result : Result A PutFault) (fault : PutFault) (before after : Option Files) (start a b : ℕ) (put : Put) → start ≤ a → result ≡ Err fault → (result ≡ Err Memory → after ≡ before) → (result ≡ Err Failed → Rose a b) → (result ≡ Err Failed → IsPutInPart before after put.name put.bytes) → IsPutFault fault before after start b put
put_faulted result Memory before after start a b put stays is wanted rose part = wanted is
put_faulted result Failed before after start a b put stays is wanted rose part = (part is, rose_later start a b stays (rose is))
