use Rattle.std.proofs.Common.{◌≡◌, ◌∙◌, ℕ, length, take, ap, subst, arith}
use Rattle.std.proofs.Math.Seq.{take-length}
use Rattle.std.proofs.lemmas.List.Elements.{All-nil}
use Rattle.std.proofs.lemmas.Option.{slice_get-get_or}
use Rattle.adv_base.specs.Settings.{the_setting}
use Rattle.programme_parts.specs.Combinations.{AreFew, HasFew}
use Rattle.programme_parts.proofs.Statements.{parts-none}
use Rattle.tuning.proofs.building.parts_of.Goals as goal

pub loop-at-init : goal.loop-at-init
loop-at-init c =
    record {
      parts = rw c.new-parts.ensures.items (parts-none (the_setting c.args.setting.now));
      few = All-nil (HasFew c.args.setting.now.cat.now);
    }

pub push_next-requires-clause-found : goal.push_next-requires-clause-found
push_next-requires-clause-found c = slice_get-get_or c.args.setting.now.statements.now c.loop-at.at c.index-setting-at.result c.loop-at-test.true

pub returns-clause-few : goal.returns-clause-few
returns-clause-few c =
    let setting = c.args.setting.now in
    let end : c.loop-at.at ≡ length setting.statements.now = omega arith in
    subst (AreFew setting.cat.now) (ap (λ (n : ℕ). take n setting.statements.now) end ∙ take-length setting.statements.now) c.loop-at.invariant.few
