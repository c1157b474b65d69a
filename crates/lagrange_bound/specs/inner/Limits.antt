-- How great sums may grow.
use Rattle.std.specs.Prelude.{ℕ, ◌+◌, ◌*◌}
use Rattle.adv_base.specs.declared.limits.TheConstants.{MOST_CANDIDATES, MOST_INDEX_PAGES, MOST_PAGE_PRICE, MOST_RENT, MOST_SLOTS, MOST_STATEMENTS, MOST_UPKEEP, MOST_WEIGHT}

-- the weighted rents of a candidate
abbrev pub MOST_RENTS : ℕ
MOST_RENTS = MOST_STATEMENTS * (MOST_WEIGHT * (MOST_SLOTS * (MOST_CANDIDATES * MOST_RENT)))

-- what a candidate costs, in parts of 65536
abbrev pub MOST_CANDIDATE_COST : ℕ
MOST_CANDIDATE_COST = 65536 * (MOST_STATEMENTS * (MOST_WEIGHT * MOST_UPKEEP)) + MOST_PAGE_PRICE * MOST_INDEX_PAGES

-- the uses of a candidate
abbrev pub MOST_USES : ℕ
MOST_USES = MOST_STATEMENTS * (MOST_SLOTS * MOST_CANDIDATES)
