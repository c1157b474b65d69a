use Rattle.std.proofs.Common.{List, ◌∙◌, sym, subst, ap}
use Rattle.std.specs.List.{list_any}
use Rattle.planner.specs.declared.front.Link.{Link}
use Rattle.planner.specs.inner.Growing.{is_alike, IsKeeping}
use Rattle.planner.proofs.Growing.{keeping_none, keeping_push}
use Rattle.planner.proofs.needs.keep_link.Goals as goal

pub returns-then-has_link : goal.returns-then-has_link
returns-then-has_link c =
    keeping_none c.args.links.now.items c.args.link (ap (list_any (is_alike c.args.link)) (sym c.as_slice.ensures.value) ∙ sym c.has_link.ensures ∙ c.if-has_link.true)

pub returns : goal.returns
returns c =
    subst (λ (ls : List Link). IsKeeping c.args.links.now.items ls c.args.link) (sym c.in_ok-push.ensures.items) (keeping_push c.args.links.now.items c.args.link)
