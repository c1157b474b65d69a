-- What `candidates` answers: the candidates of the workload, and how many more were left over.
use Rattle.adv_base.specs.Settings.{TheSetting}
use Rattle.report.specs.declared.done.Done.{Done}
use Rattle.report.specs.declared.done.Done.TheVariants.{Listed}
use Rattle.candidates.specs.Candidates.{AreCandidates}

-- a list of candidates
abbrev pub Gives : TheSetting → Done → Type 0
Gives setting (Listed found) = AreCandidates setting.cat setting.statements found.list found.left_over
Gives setting done = ⊥
