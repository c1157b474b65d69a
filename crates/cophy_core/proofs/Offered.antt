-- Each slot of a block whose names exist has an offer, the table itself.
use Rattle.std.proofs.Common.{◌≡◌, ℕ, ◌<◌, inl, inr, List, length, get_or, Some, slice_get, arith}
use Rattle.std.proofs.lemmas.Option.{slice_get_cases}
use Rattle.adv_base.specs.declared.catalogue.Catalogue.{Catalogue}
use Rattle.adv_base.specs.declared.catalogue.index.IndexShape.{IndexShape}
use Rattle.adv_base.specs.declared.setting.Config.{Config}
use Rattle.adv_base.specs.declared.workload.block.Block.{Block}
use Rattle.adv_base.specs.Named.{NamesBlock, NamesSlot}
use Rattle.adv_base.specs.Offers.{offers}

-- an element within a list
there : {X : Type 0} (xs : List X) (i : ℕ) → i < length xs → (x : X) × (slice_get xs i ≡ Some x) × (get_or xs i x ≡ x)
there xs i h =
    elim ((slice_get_cases xs i).1) [
      | inl found ↦ (found.0, found.2, found.3)
      | inr past ↦ absurd (omega (arith, past.0))
    ]

pub offered : (cat : Catalogue) (block : Block) (shapes : List IndexShape) (config : Config) (s : ℕ) → NamesBlock cat block → s < length block.slots → 0 < length (offers cat block shapes config s)
unfolding offers
offered cat block shapes config s names h =
    let slot = there block.slots s h in
    let named : NamesSlot cat slot.0 = rw slot.2 at (names.slots s slot.0 h) in
    let table = there cat.tables slot.0.table named.table in
    rw slot.1 (rw table.1 (omega arith))
