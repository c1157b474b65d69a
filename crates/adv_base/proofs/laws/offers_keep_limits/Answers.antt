use Rattle.adv_base.proofs.OfferBounds.{table_price-most, index_price-most, offers-limits, offers-prices, charged-limits, charged-prices, tables-offered, tables-charged}
use Rattle.adv_base.proofs.laws.offers_keep_limits.Goals as goal

pub returns-clause-tables : goal.returns-clause-tables
returns-clause-tables c = table_price-most

pub returns-clause-indexes : goal.returns-clause-indexes
returns-clause-indexes c = index_price-most

pub returns-clause-offers : goal.returns-clause-offers
returns-clause-offers c = record { limits = offers-limits; prices = offers-prices }

pub returns-clause-charged : goal.returns-clause-charged
returns-clause-charged c = record { limits = charged-limits; prices = charged-prices }

pub returns-clause-whole : goal.returns-clause-whole
returns-clause-whole c = record { plain = tables-offered; charged = tables-charged }
