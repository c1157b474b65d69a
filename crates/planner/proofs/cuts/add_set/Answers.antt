use Rattle.std.proofs.Common.{◌≡◌, ℕ, ◌+◌, [], ◌∷◌, ◌++◌, Bool, List, length, sym, ap, subst, ◌∙◌, arith}
use Rattle.planner.specs.Cuts.{AreCuts}
use Rattle.planner.specs.inner.Cutting.{AddsCuts}
use Rattle.planner.proofs.Cutting.{cuts_add}
use Rattle.planner.proofs.cuts.add_set.Goals as goal

pub returns : goal.returns
returns c =
    let task = c.args.task.now in
    let links = c.args.links.now in
    let n = c.args.set in
    let cuts = c.args.made.now.cuts.items in
    let merges = c.args.made.now.merges.items in
    let starts = c.args.made.now.starts.items in
    let covered = c.args.made.now.covered.items in
    let new_cuts = c.add_cuts.new.cuts.items in
    let new = c.add_cuts.new.merges.items in
    let flag = c.can_cover-covers.result in
    let adds = subst (λ (cs : List Bool). AddsCuts task links cs n 1 n cuts merges new_cuts new) c.as_slice-covered.ensures.value c.in_ok-add_cuts.ensures in
    let base = cuts_add task links n cuts new_cuts merges new starts covered flag c.requires.done adds c.can_cover-covers.ensures.slot (λ h. c.can_cover-covers.ensures.cuts (omega (arith, h, c.len-before.ensures, c.len-end.ensures, c.args.made.now.cuts.ok.0, c.add_cuts.new.cuts.ok.0))) in
    let end : length new_cuts ≡ c.len-end.result = omega (arith, c.len-end.ensures, c.add_cuts.new.cuts.ok.0) in
    let starts_are = ap (λ (e : ℕ). starts ++ e ∷ []) end ∙ sym c.in_ok-push.ensures.items in
    subst (λ (s : List ℕ). AreCuts task links new_cuts new s c.push-2.new.self.items (n + 1)) starts_are (subst (λ (cs : List Bool). AreCuts task links new_cuts new (starts ++ length new_cuts ∷ []) cs (n + 1)) (sym c.in_ok-push-2.ensures.items) base)
