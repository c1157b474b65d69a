use Rattle.std.proofs.Common.{◌≡◌, subst}
use Rattle.bip_model.specs.declared.programme.Programme.{Programme}
use Rattle.programme_parts.specs.Laws.{IsProgrammeOf}
use Rattle.programme_parts.proofs.OneProgramme.{one-programme}
use Rattle.retune.specs.Sessions.{TheSession, setting_of, the_session}
use Rattle.retune.proofs.session.Session.programme.Goals as goal

pub returns-clause-one : goal.returns-clause-one
returns-clause-one c =
    let s = c.self.inside in
    let tuned = c.self.invariant.0 in
    subst (λ (session : TheSession). (other : Programme) → IsProgrammeOf (setting_of session) other → other ≡ session.programme) c.self.view_is
    (λ other is. one-programme (setting_of (the_session s.cat.now s.statements.items s.candidates s.programme)) other s.programme is
    (record { stands = tuned.stands; kept = tuned.kept }))
