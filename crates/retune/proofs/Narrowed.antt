-- Programmes of which one statement has gone.
use Rattle.std.proofs.Common.{◌≡◌, ◌∙◌, ℕ, ◌+◌, ◌≤◌, false, List, length, All, sym, ap, subst, arith}
use Rattle.std.specs.Prelude.{Option}
use Rattle.std.proofs.lemmas.List.{length-map, take_all}
use Rattle.adv_base.specs.declared.catalogue.index.IndexShape.{IndexShape}
use Rattle.adv_base.specs.declared.workload.Statement.{Statement}
use Rattle.adv_base.specs.Settings.{TheSetting, KeepsLimits}
use Rattle.adv_base.specs.Sizes.{shape_pages}
use Rattle.hypo_indexes.specs.declared.figures.Figures.{Figures}
use Rattle.hypo_indexes.specs.Figures.{AreFigures}
use Rattle.plan_model.specs.Lagrangian.{weighted_upkeep}
use Rattle.bip_model.specs.declared.part.Part.{Part}
use Rattle.bip_model.specs.declared.programme.Programme.{Programme}
use Rattle.bip_model.specs.Limits.Programmes.{GrantsWithin, ProgrammeLimits}
use Rattle.bip_model.specs.StandsFor.{AreEach, IsPart, blocked_from}
use Rattle.bip_model.proofs.Lists.{each-length, each-map}
use Rattle.programme_parts.specs.Kept.{HasKept}
use Rattle.programme_parts.specs.Laws.{IsProgrammeOf}
use Rattle.programme_parts.proofs.Statements.{all-within, parts-few}
use Rattle.retune.specs.declared.tables.Changed.{Changed}
use Rattle.retune.specs.inner.Renewing.{AreRenewed, ArePutBehind, IsRenewed, IsRenumbering, IsWhole, has_changed, setting_with, with_one, without_part}
use Rattle.retune.proofs.PutOver.{each-both}
use Rattle.retune.proofs.Without.{IsStill, put-behind, without-one}

-- what is left are the old parts of the statements
pub still-parts : (s : TheSetting) (at : ℕ) (statement : Statement) (old : List IndexShape) (programme : Programme) → at ≤ length s.statements → IsProgrammeOf (setting_with s at statement old) programme →
    AreEach (IsStill (setting_with s at statement old) (at + 1)) (blocked_from 1 s.statements) (without_part (at + 1) programme.parts)
still-parts s at statement old programme within before =
    let setting : TheSetting = setting_with s at statement old in
    let place : 1 + at ≡ at + 1 = omega arith in
    let whole : AreEach (IsWhole setting) (blocked_from 1 (with_one s.statements at statement)) programme.parts =
    each-both (IsPart setting) (HasKept setting.cat) (IsWhole setting) (λ b part is kept. record { is = is; kept = kept }) (blocked_from 1 (with_one s.statements at statement)) programme.parts
    before.stands.parts_are before.kept in
    subst (λ (gone : ℕ). AreEach (IsStill setting gone) (blocked_from 1 s.statements) (without_part gone programme.parts)) place
    (without-one setting 1 at s.statements statement programme.parts within whole)

-- those that are made anew, of all statements
pub renewed-all : (s : TheSetting) (tables : Changed) (renewed : List (Option Part)) → AreRenewed s tables (length s.statements) renewed → AreEach (IsRenewed s tables) (blocked_from 1 s.statements) renewed
renewed-all s tables renewed are =
    subst (λ (statements : List Statement). AreEach (IsRenewed s tables) (blocked_from 1 statements) renewed) (take_all (length s.statements) s.statements (omega arith)) are

-- one for each of the parts that are left
pub renewed-each : (s : TheSetting) (at : ℕ) (statement : Statement) (old : List IndexShape) (programme : Programme) (tables : Changed) (renewed : List (Option Part)) → at ≤ length s.statements →
    IsProgrammeOf (setting_with s at statement old) programme → AreRenewed s tables (length s.statements) renewed → length renewed ≤ length (without_part (at + 1) programme.parts)
renewed-each s at statement old programme tables renewed within before are =
    omega (
      arith,
      each-length (IsRenewed s tables) (blocked_from 1 s.statements) renewed (renewed-all s tables renewed are),
      each-length (IsStill (setting_with s at statement old) (at + 1)) (blocked_from 1 s.statements) (without_part (at + 1) programme.parts) (still-parts s at statement old programme within before),
    )

-- the new parts
pub new-parts : (s : TheSetting) (at : ℕ) (statement : Statement) (old : List IndexShape) (programme : Programme) (tables : Changed) (number : ℕ → ℕ) (renewed : List (Option Part)) (news : List Part) → at ≤ length s.statements →
    IsProgrammeOf (setting_with s at statement old) programme → ((t : ℕ) → has_changed tables t ≡ false → IsRenumbering number old s.shapes t) → AreRenewed s tables (length s.statements) renewed →
    ArePutBehind (at + 1) number renewed (without_part (at + 1) programme.parts) news → AreEach (IsWhole s) (blocked_from 1 s.statements) news
new-parts s at statement old programme tables number renewed news within before same are put =
    put-behind (setting_with s at statement old) s.statements s.shapes tables (at + 1) number (blocked_from 1 s.statements) renewed (without_part (at + 1) programme.parts) news same
    (renewed-all s tables renewed are) (still-parts s at statement old programme within before) put

-- ## The programme

pub whole-limits : (s : TheSetting) (figures : Figures) (parts : List Part) → KeepsLimits s → AreFigures s figures → AreEach (IsWhole s) (blocked_from 1 s.statements) parts →
    ProgrammeLimits figures.sizes figures.upkeep figures.kept parts
whole-limits s figures parts limits own whole =
    let are : AreEach (IsPart s) (blocked_from 1 s.statements) parts = each-map (IsWhole s) (IsPart s) (λ b part one. one.is) (blocked_from 1 s.statements) parts whole in
    let sizes : length figures.sizes ≡ length s.shapes = ap length own.sizes_are ∙ length-map s.shapes (shape_pages s.cat) in
    let upkeeps : length figures.upkeep ≡ length s.shapes = ap length own.upkeep_is ∙ length-map s.shapes (weighted_upkeep s) in
    record {
      sizes_most = omega (arith, sizes, limits.shapes_most);
      pages_most = own.sizes_most;
      upkeep_each = omega (arith, sizes, upkeeps);
      upkeep_most = own.upkeep_most;
      kept_most = own.kept_most;
      parts_most = omega (arith, parts-few s s.statements parts are, limits.statements_most);
      candidates = subst (λ (n : ℕ). All (GrantsWithin n) parts) (sym sizes) (all-within s (blocked_from 1 s.statements) parts are);
    }

pub whole-programme : (s : TheSetting) (figures : Figures) (programme : Programme) → AreFigures s figures → AreEach (IsWhole s) (blocked_from 1 s.statements) programme.parts → programme.sizes ≡ figures.sizes →
    programme.upkeep ≡ figures.upkeep → programme.kept ≡ figures.kept → IsProgrammeOf s programme
whole-programme s figures programme own whole sizes upkeep kept =
    record {
      stands =
          record {
            sizes_are = sizes ∙ own.sizes_are;
            upkeep_is = upkeep ∙ own.upkeep_is;
            kept_is = kept ∙ own.kept_is;
            parts_are = each-map (IsWhole s) (IsPart s) (λ b part one. one.is) (blocked_from 1 s.statements) programme.parts whole;
          };
      kept = each-map (IsWhole s) (HasKept s.cat) (λ b part one. one.kept) (blocked_from 1 s.statements) programme.parts whole;
    }
