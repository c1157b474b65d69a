-- Sessions: a workload with its candidates and its programme.
use Rattle.std.specs.Prelude.{List}
use Rattle.adv_base.specs.declared.catalogue.Catalogue.{Catalogue}
use Rattle.adv_base.specs.declared.workload.Statement.{Statement}
use Rattle.adv_base.specs.Settings.{TheSetting, KeepsLimits}
use Rattle.bip_model.specs.declared.programme.Programme.{Programme}
use Rattle.bip_model.specs.StandsFor.{AreEach, StandsFor, blocked_from}
use Rattle.candidates.specs.declared.answer.Candidates.{Candidates}
use Rattle.candidates.specs.Candidates.{AreCandidates}
use Rattle.programme_parts.specs.Kept.{HasKept}

pub record TheSession : Type 0 where
  pub cat : Catalogue
  pub statements : List Statement
  pub candidates : Candidates
  pub programme : Programme

abbrev pub the_session : Catalogue → List Statement → Candidates → Programme → TheSession
the_session cat statements candidates programme = record { cat = cat; statements = statements; candidates = candidates; programme = programme }

-- its statements with the candidates
abbrev pub setting_of : TheSession → TheSetting
setting_of session = record { cat = session.cat; statements = session.statements; shapes = session.candidates.list }

-- the candidates are those that the statements propose, and the programme stands for both, with the templates that are kept
-- of each block
pub record IsTuned (session : TheSession) : Type 0 where
  pub limits : KeepsLimits (setting_of session)
  pub candidates : AreCandidates session.cat session.statements session.candidates.list session.candidates.left_over
  pub stands : StandsFor (setting_of session) session.programme
  pub kept : AreEach (HasKept session.cat) (blocked_from 1 session.statements) session.programme.parts
