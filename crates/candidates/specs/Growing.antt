-- What a workload proposes, statement by statement.
use Rattle.std.specs.Prelude.{◌≡◌, List, [], fold}
use Rattle.adv_base.specs.declared.catalogue.Catalogue.{Catalogue}
use Rattle.adv_base.specs.declared.workload.Statement.{Statement}
use Rattle.candidates.specs.Candidates.{with_proposal, existing_indexes, fresh_proposals}
use Rattle.candidates.specs.Proposals.{Proposal}

-- the indexes that exist, each once, and those that are proposed
pub record TheProposed : Type 0 where
  pub existing : List Proposal
  pub fresh : List Proposal

abbrev pub the_proposed : List Proposal → List Proposal → TheProposed
the_proposed existing fresh = record { existing = existing; fresh = fresh }

-- what statements propose
pub record IsProposed (cat : Catalogue) (statements : List Statement) (proposed : TheProposed) : Type 0 where
  pub existing_are : proposed.existing ≡ fold (with_proposal []) [] (existing_indexes cat)
  pub fresh_are : proposed.fresh ≡ fresh_proposals cat statements
