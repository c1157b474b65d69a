use Rattle.std.proofs.Common.{◌≡◌, ◌∙◌, ◌≤◌, length, ap, subst, arith}
use Rattle.std.proofs.lemmas.List.{length-map}
use Rattle.std.proofs.lemmas.Result.{err_from_is_err_and}
use Rattle.adv_base.specs.declared.limits.TheConstants.{MOST_STATEMENTS}
use Rattle.adv_base.specs.declared.setting.Config.{Config}
use Rattle.adv_base.specs.Settings.{the_setting}
use Rattle.plan_model.specs.Totals as totals
use Rattle.report.specs.declared.done.Refusal.TheVariants.{Sql}
use Rattle.sql_reader.specs.declared.parsed.SqlFault.TheVariants as sql
use Rattle.workload_fold.proofs.BoundGroups.{good_groups}
use Rattle.workload_fold.specs.Groups.{Group, groups_of}
use Rattle.workload_fold.specs.ReadingBack.{text_of_groups}
use Rattle.workload_fold.specs.Texts.{folded_text}
use Rattle.cophy_core.specs.commands.Fold.{IsFoldedText, Refuses, the_groups}
use Rattle.cophy_core.proofs.Blocks.{has_none}
use Rattle.cophy_core.proofs.Folding.{Laws, speaks}
use Rattle.cophy_core.proofs.Stopped.{stops_at}
use Rattle.cophy_core.proofs.commands.fold.fold.Goals as goal

-- the text was read before, so that memory alone can be wanting
pub returns-in_err-parsed-clause-stop : goal.returns-in_err-parsed-clause-stop
returns-in_err-parsed-clause-stop c =
    let p = err_from_is_err_and c.from_residual-in_err-parsed.result c.from_residual-in_err-parsed.ensures.1 in
    let setting = the_setting c.args.setting.now in
    let wanting : c.in_err-parsed.field-0.0 ≡ sql.Memory = c.in_err-parsed.ensures.only c.requires.read.parsed c.requires.read.is_workload in
    rw p.1 (stops_at (Refuses c.args.load.now setting) sql.Memory Sql c.in_err-parsed.field-0.0 p.0 p.2 (λ apart. absurd (apart wanting)))

pub overflow_cast-result-2 : goal.overflow_cast-result-2
overflow_cast-result-2 c =
    let setting = c.args.setting.now in
    let groups = groups_of setting.cat.now setting.statements.now in
    let few = (good_groups setting.cat.now setting.statements.now).few in
    let most : length setting.statements.now ≤ MOST_STATEMENTS = setting.limits.statements_most in
    let count : length c.as_slice-2.result.now ≡ length groups = ap length (c.as_slice-2.ensures ∙ c.in_ok-folded.ensures.first) ∙ length-map groups (λ (g : Group). g.number) in
    omega (arith, few, most, count)

pub returns-clause-gives : goal.returns-clause-gives
returns-clause-gives c =
    let setting = c.args.setting.now in
    let groups = groups_of setting.cat.now setting.statements.now in
    let Priced : Config → Type 0 = λ config. totals.AreCosts setting.cat.now setting.shapes.now config setting.statements.now c.in_ok-prices.prices.costs in
    let count : length c.as_slice-2.result.now ≡ length groups = ap length (c.as_slice-2.ensures ∙ c.in_ok-folded.ensures.first) ∙ length-map groups (λ (g : Group). g.number) in
    let size = ap length c.as_slice.ensures in
    let text_is : c.in_ok-text.text ≡ text_of_groups c.args.load.now c.in_ok-parsed.parsed.statements groups =
    c.in_ok-text.ensures ∙ (λ i. folded_text (c.in_ok-parsed.ensures.same_text i) c.in_ok-parsed.parsed.statements (c.in_ok-folded.ensures.first i) (c.in_ok-folded.ensures.weights i)) in
    record {
      statements_are = λ i. length setting.statements.now;
      groups_are = count;
      total_is = record {
        costs = c.in_ok-prices.prices.costs;
        costs_are = subst Priced (has_none c.none-none.result c.none-none.ensures) c.in_ok-prices.ensures.costs;
        sum = c.in_ok-prices.ensures.sum;
      };
      text = c.in_ok-text.text;
      text_is = record { parsed = c.in_ok-parsed.parsed.statements; is_workload = c.in_ok-parsed.ensures.found; text_is = text_is };
      short = omega (arith, c.if-count-gt-MOST_FILE_BYTES.false, size);
    }

pub returns-clause-puts : goal.returns-clause-puts
returns-clause-puts c =
    let laws : Laws = record { back = c.folded_texts_read_back.ensures; left_over = c.folding_keeps_totals.ensures.left_over; totals = c.folding_keeps_totals.ensures.total } in
    let setting = the_setting c.args.setting.now in
    let size = ap length c.as_slice.ensures in
    let text_is : c.in_ok-text.text ≡ text_of_groups c.args.load.now c.in_ok-parsed.parsed.statements (the_groups setting) =
    c.in_ok-text.ensures ∙ (λ i. folded_text (c.in_ok-parsed.ensures.same_text i) c.in_ok-parsed.parsed.statements (c.in_ok-folded.ensures.first i) (c.in_ok-folded.ensures.weights i)) in
    let is : IsFoldedText c.args.load.now setting c.in_ok-text.text = record { parsed = c.in_ok-parsed.parsed.statements; is_workload = c.in_ok-parsed.ensures.found; text_is = text_is } in
    λ cat. record {
      text = c.in_ok-text.text;
      text_is = is;
      short = omega (arith, c.if-count-gt-MOST_FILE_BYTES.false, size);
      speaks = speaks laws cat c.args.load.now setting c.in_ok-text.text c.requires.read is (omega (arith, c.if-count-gt-MOST_FILE_BYTES.false, size));
      puts_are = c.in_ok-puts.ensures;
    }
