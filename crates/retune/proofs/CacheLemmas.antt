-- Caches of one statement after the other.
use Rattle.std.proofs.Common.{◌≡◌, ℕ, zero, suc, ◌+◌, ◌<◌, List, [], ◌∷◌, ◌++◌, length, get_or, take, sym, subst, arith}
use Rattle.std.specs.Prelude.{Option, Some, slice_get}
use Rattle.std.proofs.lemmas.List.Elements.{All-nil}
use Rattle.adv_base.specs.declared.catalogue.Catalogue.{Catalogue}
use Rattle.adv_base.specs.declared.workload.Statement.{Statement}
use Rattle.bip_model.proofs.Lists.{each-more}
use Rattle.inum_cache.specs.declared.cache.Cache.{Cache}
use Rattle.programme_parts.specs.Combinations.{HasFew, AreFew}
use Rattle.programme_parts.proofs.Counting.{few-more, first-beyond}
use Rattle.programme_parts.proofs.Reading.{take-found}
use Rattle.retune.specs.declared.fault.RetuneFault.{RetuneFault}
use Rattle.retune.specs.declared.fault.RetuneFault.TheVariants.{Memory, NoStatement, TooManyStatements, TooManySlots, TooManyCombinations}
use Rattle.retune.specs.Steps.{IsNewFault}
use Rattle.programme_parts.specs.Caches.{IsCacheFor, AreCached}
use Rattle.retune.specs.inner.Caches.{AreCachesBelow, IsCacheFault}

pub caches-none : (cat : Catalogue) (statements : List Statement) → AreCachesBelow cat statements 0 []
caches-none cat statements = record { caches_are = tt; few = All-nil (HasFew cat) }

-- one statement more
pub caches-more : (cat : Catalogue) (statements : List Statement) (at : ℕ) (statement : Statement) (caches : List (Option Cache)) (cache : Option Cache) → slice_get statements at ≡ Some statement →
    AreCachesBelow cat statements at caches → IsCacheFor cat statement cache → HasFew cat statement → AreCachesBelow cat statements (at + 1) (caches ++ cache ∷ [])
caches-more cat statements at statement caches cache found before is few =
    let next : take at statements ++ statement ∷ [] ≡ take (at + 1) statements = sym (take-found statements at statement found) in
    record {
      caches_are = subst (λ (xs : List Statement). AreCached cat xs (caches ++ cache ∷ [])) next (each-more (IsCacheFor cat) (take at statements) caches statement cache before.caches_are is);
      few = few-more cat statements at statement found before.few few;
    }

-- the first fault
pub first-fault : (cat : Catalogue) (statements : List Statement) (at : ℕ) (statement : Statement) (fault : RetuneFault) → slice_get statements at ≡ Some statement → AreFew cat (take at statements) →
    IsCacheFault cat statement (at + 1) fault → IsNewFault cat statements fault
first-fault cat statements at statement Memory found before own = tt
first-fault cat statements at statement (TooManyCombinations n count) found before own = first-beyond cat statements at n count statement found before own.0 own.1
first-fault cat statements at statement (NoStatement n) found before own = own
first-fault cat statements at statement TooManyStatements found before own = own
first-fault cat statements at statement TooManySlots found before own = own

-- the cache at a place
pub cached-at : (cat : Catalogue) (statements : List Statement) (caches : List (Option Cache)) (at : ℕ) (d : Statement) (e : Option Cache) → AreCached cat statements caches → at < length statements →
    IsCacheFor cat (get_or statements at d) (get_or caches at e)
cached-at cat [] caches at d e are h = absurd (omega arith)
cached-at cat (x ∷ xs) [] at d e are h = absurd are
cached-at cat (x ∷ xs) (y ∷ ys) zero d e are h = are.0
cached-at cat (x ∷ xs) (y ∷ ys) (suc at) d e are h = cached-at cat xs ys at d e are.1 (omega arith)
