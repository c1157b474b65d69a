use Rattle.std.proofs.Common.{◌∙◌, sym, ap, subst}
use Rattle.std.specs.Prelude.{Some}
use Rattle.std.proofs.lemmas.Bool.{false≢true}
use Rattle.adv_base.specs.Items.{Order, BeginsWith}
use Rattle.programme_parts.specs.inner.Readers as reads
use Rattle.programme_parts.proofs.Reading.{given-begins, given-not}
use Rattle.programme_parts.proofs.slot_reader.SlotReader.given.Goals as goal

pub returns-then-begins_with : goal.returns-then-begins_with
returns-then-begins_with c =
    let order : Order = c.args.order.now in
    ap Some c.price.ensures
    ∙ given-begins order (reads.offer_at c.args.self.now c.args.offer) (subst (λ (o : Order). BeginsWith o order) c.order.ensures (c.begins_with.ensures.0 c.if-begins_with.true))

pub returns-else-begins_with : goal.returns-else-begins_with
returns-else-begins_with c =
    let order : Order = c.args.order.now in
    given-not order (reads.offer_at c.args.self.now c.args.offer)
    (λ begins. false≢true (sym c.if-begins_with.false ∙ c.begins_with.ensures.1 (subst (λ (o : Order). BeginsWith o order) (sym c.order.ensures) begins)))
