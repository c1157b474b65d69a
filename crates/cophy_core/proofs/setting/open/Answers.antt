use Rattle.std.proofs.Common.{◌≤◌, List, [], length, All, inl, inr, arith}
use Rattle.std.specs.Prelude.{sum_by}
use Rattle.std.proofs.lemmas.List.Elements.{All-nil}
use Rattle.std.proofs.lemmas.Result.{err_from_is_err_and}
use Rattle.adv_base.specs.declared.catalogue.Catalogue.{Catalogue}
use Rattle.adv_base.specs.declared.limits.TheConstants.{MOST_SLOTS_IN_ALL, MOST_STATEMENTS}
use Rattle.adv_base.specs.declared.workload.Statement.{Statement}
use Rattle.adv_base.specs.Limits.Settings.{SettingLimits, slot_count}
use Rattle.adv_base.specs.Named.{NamesShape, NamesWork}
use Rattle.binder.specs.declared.fault.BindFault.TheVariants as bind
use Rattle.catalogue.specs.declared.fault.CatFault.TheVariants as cat
use Rattle.report.specs.declared.done.Refusal.TheVariants.{Cat, Sql, Bind}
use Rattle.retune.proofs.Found.{found-candidates, found-limits, proposed-keys}
use Rattle.sql_reader.specs.declared.parsed.SqlFault.TheVariants as sql
use Rattle.cophy_core.specs.Settings.{IsSettingRefusal}
use Rattle.cophy_core.proofs.Stopped.{stops_at}
use Rattle.cophy_core.proofs.setting.open.Goals as goal

pub returns-in_err-catalogue-clause-stop : goal.returns-in_err-catalogue-clause-stop
returns-in_err-catalogue-clause-stop c =
    let p = err_from_is_err_and c.from_residual.result c.from_residual.ensures.1 in
    rw p.1 (stops_at (IsSettingRefusal c.args.cat.now c.args.load.now) cat.Memory Cat c.in_err-catalogue.field-0.0 p.0 p.2 (λ apart. record { no_memory = apart; first = c.in_err-catalogue.ensures.exact apart }))

pub returns-in_err-parsed-clause-stop : goal.returns-in_err-parsed-clause-stop
returns-in_err-parsed-clause-stop c =
    let p = err_from_is_err_and c.from_residual-in_err-parsed.result c.from_residual-in_err-parsed.ensures.1 in
    rw p.1 (stops_at (IsSettingRefusal c.args.cat.now c.args.load.now) sql.Memory Sql c.in_err-parsed.field-0.0 p.0 p.2
    (λ apart. elim c.in_err-parsed.ensures.fault [
      | inl memory ↦ absurd (apart memory)
      | inr fault ↦ record { catalogue = c.in_ok-catalogue.catalogue; catalogue_is = c.in_ok-catalogue.ensures.exact; first = fault }
    ]))

pub returns-in_err-statements-clause-stop : goal.returns-in_err-statements-clause-stop
returns-in_err-statements-clause-stop c =
    let p = err_from_is_err_and c.from_residual-in_err-statements.result c.from_residual-in_err-statements.ensures.1 in
    rw p.1 (stops_at (IsSettingRefusal c.args.cat.now c.args.load.now) bind.Memory Bind c.in_err-statements.field-0.0 p.0 p.2
    (λ apart. record {
      catalogue = c.in_ok-catalogue.catalogue;
      catalogue_is = c.in_ok-catalogue.ensures.exact;
      first = record {
        parsed = c.in_ok-parsed.parsed.statements;
        is_workload = c.in_ok-parsed.ensures.found;
        no_memory = apart;
        first = rw c.in_ok-parsed.ensures.same_text at (c.in_err-statements.ensures.exact apart);
      };
    }))

-- the limits of a setting without candidates
bare : (cat : Catalogue) (statements : List Statement) → length statements ≤ MOST_STATEMENTS → sum_by (λ statement. slot_count statement.work) statements ≤ MOST_SLOTS_IN_ALL →
    All (λ statement. NamesWork cat statement.work) statements → SettingLimits cat statements []
bare cat statements most few named =
    record { statements_most = most; slots_most = few; shapes_most = omega arith; statements_named = named; shapes_named = All-nil (NamesShape cat) }

pub candidates-requires : goal.candidates-requires
candidates-requires c =
    let read = c.in_ok-statements in
    let limits = bare c.in_ok-catalogue.catalogue read.statements read.ensures.most read.ensures.few read.ensures.named in
    record { limits = proposed-keys c.in_ok-catalogue.catalogue read.statements c.in_ok-proposed.proposed limits (rw c.as_slice.ensures at c.in_ok-proposed.ensures) }

pub invariant_of-opened : goal.invariant_of-opened
invariant_of-opened c =
    let read = c.in_ok-statements in
    let limits = bare c.in_ok-catalogue.catalogue read.statements read.ensures.most read.ensures.few read.ensures.named in
    record {
      limits =
          found-limits c.in_ok-catalogue.catalogue read.statements c.in_ok-proposed.proposed c.in_ok-found.found.list limits (rw c.as_slice.ensures at c.in_ok-proposed.ensures)
          c.in_ok-found.ensures.list;
    }

pub returns-clause-setting : goal.returns-clause-setting
returns-clause-setting c = record {
  catalogue_is = c.in_ok-catalogue.ensures.exact;
  statements_are = record {
    parsed = c.in_ok-parsed.parsed.statements;
    is_workload = c.in_ok-parsed.ensures.found;
    bound = rw c.in_ok-parsed.ensures.same_text at c.in_ok-statements.ensures.exact;
  };
  candidates_are =
      let own = c.in_ok-found.ensures in
      found-candidates c.in_ok-catalogue.catalogue c.in_ok-statements.statements c.in_ok-proposed.proposed c.in_ok-found.found.list c.in_ok-found.found.left_over
      (rw c.as_slice.ensures at c.in_ok-proposed.ensures) own.list own.left_over own.not_unique;
}

pub returns-clause-proposed : goal.returns-clause-proposed
returns-clause-proposed c = rw c.as_slice.ensures at c.in_ok-proposed.ensures
