use Rattle.std.proofs.Common.{◌≡◌, Bool, ℕ, List, [], sym, subst, rules}
use Rattle.adv_base.specs.declared.catalogue.index.IndexShape.{IndexShape}
use Rattle.bip_model.specs.declared.answer.Answer.{Answer}
use Rattle.bip_model.specs.declared.answer.Node.{Node}
use Rattle.bip_model.specs.declared.fix.Fix.{Fix}
use Rattle.bip_model.specs.declared.multipliers.Multipliers.{Multipliers}
use Rattle.bip_model.specs.declared.programme.Programme.{Programme}
use Rattle.bip_model.specs.Best.{IsBest}
use Rattle.bip_model.specs.Views.{node_of}
use Rattle.branch_bound.specs.declared.found.Found.{Found}
use Rattle.branch_bound.specs.inner.Runs.{Rules, IsExplored, answer, started}
use Rattle.branch_bound.proofs.Sound.{explored-sound}
use Rattle.branch_bound.proofs.Linking.{AreKept, search-best}
use Rattle.branch_bound.proofs.best.search.Goals as goal

-- the rules of a walk under some sets
rules_with : Programme → List IndexShape → ℕ → ℕ → Multipliers → List Bool → Bool → List Multipliers → Rules
rules_with programme shapes budget nodes zeros useful stops sets =
    record { programme = programme; shapes = shapes; budget = budget; nodes = nodes; zeros = zeros; sets = sets; useful = useful; stops = stops }

same-run : (programme : Programme) (shapes : List IndexShape) (budget nodes : ℕ) (zeros : Multipliers) (useful : List Bool) (stops : Bool) (a b : List Multipliers) (root : Fix) (before after : Found) (new : List Node) → a ≡ b →
    IsExplored (rules_with programme shapes budget nodes zeros useful stops a) root before [] after new → IsExplored (rules_with programme shapes budget nodes zeros useful stops b) root before [] after new
same-run programme shapes budget nodes zeros useful stops a b root before after new same explored =
    subst (λ (sets : List Multipliers). IsExplored (rules_with programme shapes budget nodes zeros useful stops sets) root before [] after new) same explored

pub climbed-best-requires : goal.climbed-best-requires
unfolding rules_with
climbed-best-requires c =
    let walked = c.walked-found.ensures.walked in
    let own : Rules = rules_with c.args.programme.now c.args.shapes.now c.args.budget c.args.nodes c.args.room.zeros c.useful_of-useful.result.flags walked.stops c.propose-known.new.sets.items in
    explored-sound own c.args.root.now c.propose-known.result c.walked-found.result c.walked-found.new.walk.tree.items c.requires.root c.propose-known.ensures.known
    (same-run c.args.programme.now c.args.shapes.now c.args.budget c.args.nodes c.args.room.zeros c.useful_of-useful.result.flags walked.stops c.as_slice.result.now c.propose-known.new.sets.items c.args.root.now (started c.propose-known.result) c.walked-found.result
    c.walked-found.new.walk.tree.items c.as_slice.ensures.value walked.explored)

pub returns : goal.returns
unfolding rules_with
returns c =
    let walked = c.walked-found.ensures.walked in
    let own : Rules = rules_with c.args.programme.now c.args.shapes.now c.args.budget c.args.nodes c.args.room.zeros c.useful_of-useful.result.flags walked.stops c.propose-known.new.sets.items in
    let told : c.answer.result ≡ answer c.climbed-best.result c.walked-found.result.low c.propose-known.new.sets.items c.walked-found.new.walk.tree.items c.useful_of-useful.result.count =
    search (rules, c.answer.ensures) in
    let raised = c.propose-known.ensures.sets in
    let kept : AreKept own raised.first c.set_limit.result =
    record {
      front = raised.front;
      some = raised.proposed.some;
      few = raised.proposed.few;
      fit = raised.proposed.fit;
      limit = c.set_limit.ensures;
    } in
    λ setting limits stands shapes_are.
    subst (λ (a : Answer). IsBest setting c.args.budget c.args.nodes (node_of c.args.root.now) a) (sym told)
    (search-best own c.args.root.now c.propose-known.result c.walked-found.result c.walked-found.new.walk.tree.items c.climbed-best.result.config c.climbed-best.result.cost raised.first
    c.set_limit.result c.useful_of-useful.result.count c.requires.room.zeros_fit kept c.requires.room.zeros_page c.requires.room.zeros_are c.useful_of-useful.ensures.flags c.requires.root
    c.bare.ensures.long
    (same-run c.args.programme.now c.args.shapes.now c.args.budget c.args.nodes c.args.room.zeros c.useful_of-useful.result.flags walked.stops c.as_slice.result.now c.propose-known.new.sets.items c.args.root.now (started c.propose-known.result) c.walked-found.result
    c.walked-found.new.walk.tree.items c.as_slice.ensures.value walked.explored) c.walked-found.ensures.most walked.done c.useful_of-useful.ensures.count
    c.climbed-best.ensures.sound c.climbed-best.ensures.cheaper c.climbed-best.ensures.top raised.tried setting limits stands shapes_are)
