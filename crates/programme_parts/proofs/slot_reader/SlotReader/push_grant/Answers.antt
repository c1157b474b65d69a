use Rattle.std.proofs.Common.{◌+◌, List, sym, subst}
use Rattle.bip_model.specs.declared.grant.Grant.{Grant}
use Rattle.programme_parts.specs.inner.Readers as reads
use Rattle.programme_parts.proofs.Reading.{grants-same, grants-more, number-of}
use Rattle.programme_parts.proofs.slot_reader.SlotReader.push_grant.Goals as goal

pub returns-in-None : goal.returns-in-None
returns-in-None c =
    let reader = c.args.self.now in
    grants-same reader.offers.now.slots.items reader.slot c.args.orders.now c.args.offer c.args.grants.now.items c.requires.within c.requires.before (sym c.in-None.ensures.own)

pub grant-requires-clause-number : goal.grant-requires-clause-number
grant-requires-clause-number c =
    let reader = c.args.self.now in
    number-of reader.offers.now.slots.items reader.slot c.args.offer _ c.requires.parted c.requires.within (sym c.in-Some.ensures.own)

pub returns-in_ok-put-in-Some : goal.returns-in_ok-put-in-Some
returns-in_ok-put-in-Some c =
    let reader = c.args.self.now in
    let grant = c.in_ok-grant-in-Some.grant in
    subst (λ (grants : List Grant). reads.AreGrantsBelow reader c.args.orders.now (c.args.offer + 1) grants) (sym c.in_ok-put-in-Some.ensures)
    (grants-more reader.offers.now.slots.items reader.slot c.args.orders.now c.args.offer c.in-Some.candidate c.args.grants.now.items grant c.requires.within c.requires.before
    (sym c.in-Some.ensures.own) c.in_ok-grant-in-Some.ensures.candidate_is c.in_ok-grant-in-Some.ensures.prices_are)
