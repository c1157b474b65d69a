use Rattle.std.proofs.Common.{◌≡◌, ◌∙◌, List, length, ap, subst, sym, rules}
use Rattle.std.specs.List.{AllByRecursion}
use Rattle.std.proofs.lemmas.Int.{to_z-of_z}
use Rattle.std.proofs.lemmas.Result.{err_from_is_err_and}
use mir.Syntax.{w128}
use Rattle.adv_base.specs.Settings.{TheSetting, the_setting}
use Rattle.bip_model.specs.Proves.{free_node}
use Rattle.bip_model.specs.Views.{node_of}
use Rattle.bip_model.specs.declared.answer.Node.{Node}
use Rattle.bip_model.specs.declared.fix.Fix.{Fix}
use Rattle.certificate.specs.declared.cert.Cert.{Cert}
use Rattle.certificate.specs.declared.cert.SparseSet.{SparseSet}
use Rattle.certificate.specs.Limits.{NodeLimits}
use Rattle.gap_checker.specs.Faults.{IsFault}
use Rattle.gap_checker.specs.Views.{IsProof}
use Rattle.gap_checker.specs.declared.claims.Claims.{Claims}
use Rattle.gap_checker.specs.inner.Claims.{cert_with}
use Rattle.gap_checker.specs.inner.Judges.{setting_of, root_of, cert_of}
use Rattle.gap_checker.proofs.Claimed.{IsJudgeOf, fault-moved, proof-moved}
use Rattle.gap_checker.proofs.Excluding.{excluded, sets-rise, bounds-all}
use Rattle.gap_checker.proofs.checking.check.Goals as goal

pub returns-in_err-judge_claims-clause-fault : goal.returns-in_err-judge_claims-clause-fault
returns-in_err-judge_claims-clause-fault c =
    let judge = c.in_ok-judge.judge in
    let setting : TheSetting = the_setting c.args.setting.now in
    let cert = c.args.cert.now in
    let is : IsJudgeOf judge setting free_node cert = record {
      setting_is = ap the_setting c.in_ok-judge.ensures.setting;
      root_is = ap (λ (f : Fix). node_of f) c.in_ok-judge.ensures.root ∙ c.free-root.ensures.node;
      cert_is = ap (λ (x : Claims). cert_with x cert.tree) c.in_ok-judge.ensures.claims ∙ c.of_cert.ensures.same;
    } in
    let p = err_from_is_err_and c.from_residual-in_err-judge_claims.result c.from_residual-in_err-judge_claims.ensures.1 in
    let same : p.0 ≡ c.in_err-judge_claims.field-0.0 = cc (p.2) in
    rw p.1
    (subst (IsFault setting free_node cert) (sym same) (fault-moved judge setting free_node cert c.in_err-judge_claims.field-0.0 is (c.in_err-judge_claims.ensures.fault cert.tree)))

pub returns-in_err-judge_claims-clause-proved : goal.returns-in_err-judge_claims-clause-proved
returns-in_err-judge_claims-clause-proved c = λ proof.
    let judge = c.in_ok-judge.judge in
    let setting : TheSetting = the_setting c.args.setting.now in
    let cert = c.args.cert.now in
    let is : IsJudgeOf judge setting free_node cert = record {
      setting_is = ap the_setting c.in_ok-judge.ensures.setting;
      root_is = ap (λ (f : Fix). node_of f) c.in_ok-judge.ensures.root ∙ c.free-root.ensures.node;
      cert_is = ap (λ (x : Claims). cert_with x cert.tree) c.in_ok-judge.ensures.claims ∙ c.of_cert.ensures.same;
    } in
    let p = err_from_is_err_and c.from_residual-in_err-judge_claims.result c.from_residual-in_err-judge_claims.ensures.1 in
    let same : p.0 ≡ c.in_err-judge_claims.field-0.0 = cc (p.2) in
    rw p.1
    (same ∙ excluded setting free_node cert c.in_err-judge_claims.field-0.0 c.requires (sets-rise cert.sets c.requires.sets) proof (fault-moved judge setting free_node cert c.in_err-judge_claims.field-0.0 is (c.in_err-judge_claims.ensures.fault cert.tree)))

pub judge_tree-requires-clause-nodes : goal.judge_tree-requires-clause-nodes
judge_tree-requires-clause-nodes c =
    let judge = c.in_ok-judge.judge in
    let cert = c.args.cert.now in
    let sets : judge.claims.sets.now ≡ cert.sets = ap (λ (x : Claims). x.sets.now) c.in_ok-judge.ensures.claims ∙ ap (λ (x : Cert). x.sets) c.of_cert.ensures.same in
    subst (AllByRecursion (NodeLimits (length judge.claims.sets.now))) (sym c.as_slice-2.ensures)
    (subst (λ (list : List SparseSet). AllByRecursion (NodeLimits (length list)) cert.tree) (sym sets) c.requires.nodes)

pub returns-in_err-judge_tree-clause-proved : goal.returns-in_err-judge_tree-clause-proved
returns-in_err-judge_tree-clause-proved c = λ proof.
    let judge = c.in_ok-judge.judge in
    let setting : TheSetting = the_setting c.args.setting.now in
    let cert = c.args.cert.now in
    let is : IsJudgeOf judge setting free_node cert = record {
      setting_is = ap the_setting c.in_ok-judge.ensures.setting;
      root_is = ap (λ (f : Fix). node_of f) c.in_ok-judge.ensures.root ∙ c.free-root.ensures.node;
      cert_is = ap (λ (x : Claims). cert_with x cert.tree) c.in_ok-judge.ensures.claims ∙ c.of_cert.ensures.same;
    } in
    let p = err_from_is_err_and c.from_residual-in_err-judge_tree.result c.from_residual-in_err-judge_tree.ensures.1 in
    let same : p.0 ≡ c.in_err-judge_tree.field-0.0 = cc (p.2) in
    let told = subst (λ (tree : List Node). IsFault (setting_of judge) (root_of judge) (cert_of judge tree) c.in_err-judge_tree.field-0.0) c.as_slice-2.ensures c.in_err-judge_tree.ensures.fault in
    rw p.1
    (same ∙ excluded setting free_node cert c.in_err-judge_tree.field-0.0 c.requires (sets-rise cert.sets c.requires.sets) proof (fault-moved judge setting free_node cert c.in_err-judge_tree.field-0.0 is told))

pub returns-clause-bounds : goal.returns-clause-bounds
returns-clause-bounds c =
    let judge = c.in_ok-judge.judge in
    let setting : TheSetting = the_setting c.args.setting.now in
    let cert = c.args.cert.now in
    let is : IsJudgeOf judge setting free_node cert = record {
      setting_is = ap the_setting c.in_ok-judge.ensures.setting;
      root_is = ap (λ (f : Fix). node_of f) c.in_ok-judge.ensures.root ∙ c.free-root.ensures.node;
      cert_is = ap (λ (x : Claims). cert_with x cert.tree) c.in_ok-judge.ensures.claims ∙ c.of_cert.ensures.same;
    } in
    let proof = subst (λ (tree : List Node). IsProof (setting_of judge) (root_of judge) (cert_of judge tree)) c.as_slice-2.ensures c.in_ok-judge_tree.ensures.proof in
    rw (to_z-of_z w128 cert.bound (search rules)) (bounds-all setting cert c.args.setting.now.limits (proof-moved judge setting free_node cert is proof))
