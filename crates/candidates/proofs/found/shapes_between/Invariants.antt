use Rattle.std.proofs.Common.{◌≡◌, ◌-◌, drop, map}
use Rattle.std.specs.Prelude.{take, All}
use Rattle.candidates.specs.Candidates.{proposal_of, IsNotUnique}
use Rattle.candidates.specs.inner.Known.{as_proposals}
use Rattle.candidates.proofs.found.shapes_between.Given as goal

abbrev pub invariant-places : goal.invariant-places
invariant-places l =
    (map proposal_of l.list.items ≡ take (l.at - l.from) (drop l.from (as_proposals l.known.keys))) × All IsNotUnique l.list.items
