-- Proposals as the code holds them.
use Rattle.std.specs.Prelude.{Bool, List, [], map, fold}
use Rattle.std.specs.List.{flat_map}
use Rattle.candidates.specs.declared.known.Proposal.{Proposal as OwnedProposal}
use Rattle.candidates.specs.Candidates.{with_proposal}
use Rattle.candidates.specs.Proposals.{KeyList, Proposal, forms}

abbrev pub as_proposal : OwnedProposal → Proposal
as_proposal p = record { table = p.table; keys = p.keys.items; clustered = p.clustered }

abbrev pub as_proposals : List OwnedProposal → List Proposal
as_proposals known = map as_proposal known

-- what is known behind proposals
abbrev pub with_all : List Proposal → List Proposal → List Proposal
with_all known proposals = fold (with_proposal []) known proposals

-- what is known behind the forms of key lists
abbrev pub with_forms : Bool → List Proposal → List KeyList → List Proposal
with_forms clusterable known lists = with_all known (flat_map (forms clusterable) lists)
