-- What is read of the offers of a reader's slot.
use Rattle.std.specs.Prelude.{ℕ, List, Option}
use Rattle.access_paths.specs.ConfigOffers as kept
use Rattle.adv_base.specs.Items.{Order}
use Rattle.adv_base.specs.Offers.{Offer}
use Rattle.bip_model.specs.declared.grant.Grant.{Grant}
use Rattle.bip_model.specs.declared.slot_part.SlotPart.{SlotPart}
use Rattle.programme_parts.specs.declared.slot_reader.SlotReader.{SlotReader}
use Rattle.programme_parts.specs.inner.Offered as offered

abbrev pub offers_of : SlotReader → List Offer
offers_of reader = kept.table_of reader.offers.now.slots.items reader.slot

abbrev pub offer_at : SlotReader → ℕ → Offer
offer_at reader k = offered.offer_at reader.offers.now.slots.items reader.slot k

abbrev pub candidate_at : SlotReader → ℕ → Option ℕ
candidate_at reader k = kept.candidate_at reader.offers.now.slots.items reader.slot k

abbrev pub HasParted : SlotReader → Type 0
HasParted reader = offered.HasParted reader.offers.now.slots.items reader.slot

abbrev pub IsBase : SlotReader → Order → Option ℕ → Type 0
IsBase reader order price = offered.IsBase reader.offers.now.slots.items reader.slot order price

abbrev pub AreBases : SlotReader → List Order → List (Option ℕ) → Type 0
AreBases reader orders prices = offered.AreBases reader.offers.now.slots.items reader.slot orders prices

abbrev pub AreGrantsBelow : SlotReader → List Order → ℕ → List Grant → Type 0
AreGrantsBelow reader orders k grants = offered.AreGrantsBelow reader.offers.now.slots.items reader.slot orders k grants

abbrev pub AreGrants : SlotReader → List Order → List Grant → Type 0
AreGrants reader orders grants = offered.AreGrants reader.offers.now.slots.items reader.slot orders grants

abbrev pub IsPriced : SlotReader → List Order → SlotPart → Type 0
IsPriced reader orders own = offered.IsPriced reader.offers.now.slots.items reader.slot orders own
