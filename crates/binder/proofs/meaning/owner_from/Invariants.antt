use Rattle.std.proofs.Common.{◌≡◌, drop}
use Rattle.binder.specs.Scopes.{owners}
use Rattle.binder.proofs.meaning.owner_from.Given as goal

-- no slot so far has a column of the name
abbrev pub invariant-loop-slot : goal.invariant-loop-slot
invariant-loop-slot l =
    owners l.scope.directory.now.cat.now l.slot (drop l.slot l.scope.sources) l.word ≡ owners l.scope.directory.now.cat.now l.fn.from (drop l.fn.from l.scope.sources) l.word
