use Rattle.std.proofs.Common.{◌≡◌, ◌∙◌, ℕ, ◌+◌, ◌-◌, sym, ap, subst, arith}
use Rattle.std.specs.Prelude.{slice_get}
use Rattle.gap_checker.specs.Views as views
use Rattle.gap_checker.specs.inner.Searches.{IsCut, rent_of}
use Rattle.gap_checker.proofs.Entries.{use_place, rent-cut, rent-most}
use Rattle.gap_checker.proofs.multipliers.Rents.rent.Goals as goal

pub returns-clause-exact : goal.returns-clause-exact
returns-clause-exact c =
    let entries = c.args.self.now.entries.now in
    let place : c.place_of-place.result ≡ use_place c.args.statement c.args.slot c.args.candidate = omega (arith, c.place_of-place.ensures) in
    let slot : c.args.slot + 1 - 1 ≡ c.args.slot = omega arith in
    let cut : IsCut entries (use_place c.args.statement c.args.slot c.args.candidate) c.first_at-at.result c.first_at-at.result =
    subst (λ (p : ℕ). IsCut entries p c.first_at-at.result c.first_at-at.result) place c.first_at-at.ensures in
    c.entry_rent.ensures ∙ ap (λ (s : ℕ). rent_of (slice_get entries c.first_at-at.result) c.args.statement s c.args.candidate) slot
    ∙ sym (rent-cut entries c.args.statement c.args.slot c.args.candidate c.first_at-at.result c.requires.rise cut)

pub returns-clause-most : goal.returns-clause-most
returns-clause-most c =
    let entries = c.args.self.now.entries.now in
    let place : c.place_of-place.result ≡ use_place c.args.statement c.args.slot c.args.candidate = omega (arith, c.place_of-place.ensures) in
    let slot : c.args.slot + 1 - 1 ≡ c.args.slot = omega arith in
    let cut : IsCut entries (use_place c.args.statement c.args.slot c.args.candidate) c.first_at-at.result c.first_at-at.result =
    subst (λ (p : ℕ). IsCut entries p c.first_at-at.result c.first_at-at.result) place c.first_at-at.ensures in
    let exact : c.entry_rent.result ≡ views.rent_in entries c.args.statement c.args.slot c.args.candidate =
    c.entry_rent.ensures ∙ ap (λ (s : ℕ). rent_of (slice_get entries c.first_at-at.result) c.args.statement s c.args.candidate) slot
    ∙ sym (rent-cut entries c.args.statement c.args.slot c.args.candidate c.first_at-at.result c.requires.rise cut) in
    omega (arith, exact, rent-most entries 0 c.args.statement c.args.slot c.args.candidate c.requires.rise)
