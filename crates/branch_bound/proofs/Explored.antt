-- Runs of the search, put together from what the code does at a node.
use Rattle.std.proofs.Common.{◌≡◌, ◌∙◌, inl, inr, ℕ, ◌+◌, Bool, List, [], ◌∷◌, ◌++◌, refl, sym, ap, subst, append_assoc}
use Rattle.std.proofs.Math.Seq.{map-set_same}
use Rattle.adv_base.specs.declared.setting.Config.{Config}
use Rattle.adv_base.specs.Configs.{IsApart}
use Rattle.bip_model.specs.declared.answer.Node.{Node}
use Rattle.bip_model.specs.declared.answer.Node.TheVariants.{Branch, Bounded, Overfull}
use Rattle.bip_model.specs.declared.fix.Fix.{Fix}
use Rattle.bip_model.specs.declared.fix.State.TheVariants.{Free, In, Out}
use Rattle.bip_model.specs.Trees.{Branches, Leaf, Full, preorder}
use Rattle.branch_bound.specs.declared.found.Found.{Found}
use Rattle.bip_model.specs.Views.{is_in}
use Rattle.branch_bound.specs.Sides.{fixed, inside}
use Rattle.branch_bound.specs.inner.Runs.{Rules, lag, visited, IsChoice, IsClosed, IsForced, IsBranch, lowered, branched, Runs, IsExplored}
use Rattle.branch_bound.proofs.Choices.{open-choice}

-- to leave a candidate out changes nothing of what is in
pub outside-inside : (rules : Rules) (fix right : Fix) (i : ℕ) → right ≡ fixed fix i Out → IsChoice rules fix i → inside right ≡ inside fix
outside-inside rules fix right i is choice =
    let free = (open-choice rules fix i choice.chosen).free in
    ap inside is
    ∙ ap {B = Config} (λ (flags : List Bool). record { on = flags }) (map-set_same is_in fix.state i Out Free (sym (ap is_in free)))

pub closed-explored : (rules : Rules) (fix : Fix) (before found : Found) (k : ℕ) (old new : List Node) → IsApart rules.shapes (inside fix) → found ≡ visited rules fix before →
    IsClosed rules fix found k → new ≡ old ++ Bounded k ∷ [] → IsExplored rules fix before old found new
closed-explored rules fix before found k old new apart is closed written =
    record {
      tree = Leaf k;
      list_is = written;
      run = inl (record { apart = apart; closed = subst (λ (f : Found). IsClosed rules fix f k) is closed; after_is = is });
    }

pub full-explored : (rules : Rules) (fix : Fix) (before : Found) (old new : List Node) → ¬ (IsApart rules.shapes (inside fix)) → new ≡ old ++ Overfull ∷ [] → IsExplored rules fix before old before new
full-explored rules fix before old new clash written = record { tree = Full; list_is = written; run = record { clash = clash; after_is = refl } }

pub forced-explored : (rules : Rules) (fix : Fix) (before found after : Found) (k : ℕ) (old new : List Node) → IsApart rules.shapes (inside fix) → found ≡ visited rules fix before →
    IsForced rules fix found k → after ≡ lowered found (lag rules fix k) → new ≡ old ++ Bounded k ∷ [] → IsExplored rules fix before old after new
forced-explored rules fix before found after k old new apart is forced low written =
    record {
      tree = Leaf k;
      list_is = written;
      run =
          inr (record {
            apart = apart;
            forced = subst (λ (f : Found). IsForced rules fix f k) is forced;
            after_is = low ∙ ap (λ (f : Found). lowered f (lag rules fix k)) is;
          });
    }

pub branch-explored : (rules : Rules) (fix left right : Fix) (before found below middle after : Found) (i : ℕ) (old here between new : List Node) → IsApart rules.shapes (inside fix) → found ≡ visited rules fix before →
    left ≡ fixed fix i In → right ≡ fixed fix i Out → below ≡ branched found →
    IsBranch rules fix found i → here ≡ old ++ Branch (i + 1) ∷ [] → IsExplored rules left below here middle between →
    IsExplored rules right middle between after new → IsExplored rules fix before old after new
branch-explored rules fix left right before found below middle after i old here between new apart is left_is right_is below_is branch written first second =
    record {
      tree = Branches (i + 1) first.tree second.tree;
      list_is =
          second.list_is
          ∙ ap (λ (front : List Node). front ++ preorder second.tree) (first.list_is ∙ ap (λ (front : List Node). front ++ preorder first.tree) written)
          ∙ ap (λ (front : List Node). front ++ preorder second.tree) (append_assoc old (Branch (i + 1) ∷ []) (preorder first.tree))
          ∙ append_assoc old (Branch (i + 1) ∷ preorder first.tree) (preorder second.tree);
      run =
          record {
            apart = apart;
            index = i;
            numbered = refl;
            branch = subst (λ (f : Found). IsBranch rules fix f i) is branch;
            middle = middle;
            inside_run =
                subst (λ (f : Fix). Runs rules f (branched (visited rules fix before)) first.tree middle) left_is
                (subst (λ (f : Found). Runs rules left f first.tree middle) (below_is ∙ ap branched is) first.run);
            outside_run = subst (λ (f : Fix). Runs rules f middle second.tree after) right_is second.run;
          };
    }
