use Rattle.std.proofs.Common.{◌≡◌, drop}
use Rattle.std.specs.List.{position_from}
use Rattle.binder.specs.Names.{folded}
use Rattle.binder.specs.Lookups.{goes_by}
use Rattle.binder.specs.Scopes.{source_number}
use Rattle.binder.proofs.meaning.find_source.Given as goal

-- no source so far goes by the name
abbrev pub invariant-loop-s : goal.invariant-loop-s
invariant-loop-s l = position_from (λ v. goes_by (folded l.name) v.name) l.s (drop l.s l.sources) ≡ source_number l.sources (folded l.name)
