use Rattle.std.proofs.Common.{sym, subst}
use Rattle.bip_model.specs.Limits.Grants.{ArePrices}
use Rattle.programme_parts.specs.inner.Readers as reads
use Rattle.programme_parts.proofs.Limits.{given-prices, offer-low}
use Rattle.programme_parts.proofs.slot_reader.SlotReader.grant.Goals as goal

pub invariant_of-result : goal.invariant_of-result
invariant_of-result c =
    let reader = c.args.self.now in
    record {
      limits =
          record {
            least = c.requires.number.least;
            most = c.requires.number.most;
            prices_limits =
                subst ArePrices (sym c.in_ok-prices.ensures)
                (given-prices c.args.orders.now (reads.offer_at reader c.args.offer) (offer-low reader.offers.now.slots.items reader.slot c.args.offer reader.offers.now.limits));
          };
    }
