-- Some candidates of a setting, one after the other, make a setting.
use Rattle.std.proofs.Common.{ℕ, List, take, drop, length-drop, arith}
use Rattle.std.proofs.lemmas.List.{length-take}
use Rattle.std.proofs.lemmas.List.Elements.{All-drop, All-take}
use Rattle.adv_base.specs.declared.catalogue.Catalogue.{Catalogue}
use Rattle.adv_base.specs.declared.catalogue.index.IndexShape.{IndexShape}
use Rattle.adv_base.specs.declared.workload.Statement.{Statement}
use Rattle.adv_base.specs.Limits.Settings.{SettingLimits}
use Rattle.adv_base.specs.Named.{NamesShape}

pub cut_limits : (cat : Catalogue) (statements : List Statement) (shapes : List IndexShape) (i n : ℕ) → SettingLimits cat statements shapes → SettingLimits cat statements (take n (drop i shapes))
cut_limits cat statements shapes i n limits =
    record {
      statements_most = limits.statements_most;
      slots_most = limits.slots_most;
      shapes_most = omega (arith, length-take n (drop i shapes), length-drop i shapes, limits.shapes_most);
      statements_named = limits.statements_named;
      shapes_named = All-take (NamesShape cat) n (drop i shapes) (All-drop (NamesShape cat) i shapes limits.shapes_named);
    }
