use Rattle.std.proofs.Common.{◌≡◌, ◌∙◌, refl, sym, ap, subst, rules}
use Rattle.std.proofs.lemmas.Int.{to_z-of_z}
use Rattle.std.proofs.lemmas.Result.{err_from_is_err_and}
use mir.Syntax.{w128}
use Rattle.adv_base.specs.Settings.{the_setting}
use Rattle.bip_model.specs.Views.{node_of}
use Rattle.bip_model.specs.declared.fix.Fix.{Fix}
use Rattle.certificate.proofs.Heads.{heads-keep-limits}
use Rattle.gap_checker.specs.At.{cert_at, IsAtFault}
use Rattle.gap_checker.specs.declared.claims.Claims.{Claims}
use Rattle.gap_checker.specs.inner.Claims.{cert_with}
use Rattle.gap_checker.proofs.Told.{IsJudgeAt, some-behind, claims-fault, judge-for, fault-at, whole-proof, bounds-below}
use Rattle.gap_checker.proofs.checking.check_at.Goals as goal

pub of_head-requires : goal.of_head-requires
of_head-requires g c = heads-keep-limits c.requires.bytes c.args.head.now c.requires.is

pub returns-in_err-figures-clause-fault : goal.returns-in_err-figures-clause-fault
returns-in_err-figures-clause-fault g c =
    let p = err_from_is_err_and c.from_residual.result c.from_residual.ensures.1 in
    let b = some-behind (g.S.Shelf.files c.args.shelf.now) c.args.name.now c.args.head.now.tree_at in
    rw p.1 (b.0, b.1, subst (IsAtFault (the_setting c.args.setting.now) (node_of c.args.root.now) c.args.head.now b.0) (sym p.2) tt)

pub returns-in_err-parts-clause-fault : goal.returns-in_err-parts-clause-fault
returns-in_err-parts-clause-fault g c =
    let p = err_from_is_err_and c.from_residual-in_err-parts.result c.from_residual-in_err-parts.ensures.1 in
    let b = some-behind (g.S.Shelf.files c.args.shelf.now) c.args.name.now c.args.head.now.tree_at in
    rw p.1 (b.0, b.1, subst (IsAtFault (the_setting c.args.setting.now) (node_of c.args.root.now) c.args.head.now b.0) (sym p.2) tt)

pub returns-in_err-judge-clause-fault : goal.returns-in_err-judge-clause-fault
returns-in_err-judge-clause-fault g c =
    let p = err_from_is_err_and c.from_residual-in_err-judge.result c.from_residual-in_err-judge.ensures.1 in
    let b = some-behind (g.S.Shelf.files c.args.shelf.now) c.args.name.now c.args.head.now.tree_at in
    rw p.1 (b.0, b.1, subst (IsAtFault (the_setting c.args.setting.now) (node_of c.args.root.now) c.args.head.now b.0) (sym p.2) tt)

pub returns-in_err-memo-clause-fault : goal.returns-in_err-memo-clause-fault
returns-in_err-memo-clause-fault g c =
    let p = err_from_is_err_and c.from_residual-in_err-memo.result c.from_residual-in_err-memo.ensures.1 in
    let b = some-behind (g.S.Shelf.files c.args.shelf.now) c.args.name.now c.args.head.now.tree_at in
    rw p.1 (b.0, b.1, subst (IsAtFault (the_setting c.args.setting.now) (node_of c.args.root.now) c.args.head.now b.0) (sym p.2) tt)

pub returns-in_err-judge_claims-clause-fault : goal.returns-in_err-judge_claims-clause-fault
returns-in_err-judge_claims-clause-fault g c =
    let judge = c.in_ok-judge.judge in
    let head = c.args.head.now in
    let is : IsJudgeAt judge (the_setting c.args.setting.now) (node_of c.args.root.now) head = record {
      setting_is = ap the_setting c.in_ok-judge.ensures.setting;
      root_is = ap (λ (f : Fix). node_of f) c.in_ok-judge.ensures.root;
      cert_is = λ tree. ap (λ (x : Claims). cert_with x tree) c.in_ok-judge.ensures.claims ∙ c.of_head.ensures.same tree;
    } in
    let p = err_from_is_err_and c.from_residual-in_err-judge_claims.result c.from_residual-in_err-judge_claims.ensures.1 in
    let b = some-behind (g.S.Shelf.files c.args.shelf.now) c.args.name.now head.tree_at in
    rw p.1 (b.0, b.1, claims-fault judge (the_setting c.args.setting.now) (node_of c.args.root.now) head b.0 c.in_err-judge_claims.field-0.0 p.0 is c.requires c.in_err-judge_claims.ensures.fault p.2)

pub read_tree-requires-clause-judge : goal.read_tree-requires-clause-judge
read_tree-requires-clause-judge g c =
    let judge = c.in_ok-judge.judge in
    let is : IsJudgeAt judge (the_setting c.args.setting.now) (node_of c.args.root.now) c.args.head.now = record {
      setting_is = ap the_setting c.in_ok-judge.ensures.setting;
      root_is = ap (λ (f : Fix). node_of f) c.in_ok-judge.ensures.root;
      cert_is = λ tree. ap (λ (x : Claims). cert_with x tree) c.in_ok-judge.ensures.claims ∙ c.of_head.ensures.same tree;
    } in
    judge-for judge (the_setting c.args.setting.now) (node_of c.args.root.now) c.args.head.now is c.in_ok-judge.ensures.judge c.in_ok-judge_claims.ensures.sound

pub returns-in_err-read_tree-clause-fault : goal.returns-in_err-read_tree-clause-fault
returns-in_err-read_tree-clause-fault g c =
    let judge = c.in_ok-judge.judge in
    let setting = the_setting c.args.setting.now in
    let root = node_of c.args.root.now in
    let head = c.args.head.now in
    let is : IsJudgeAt judge setting root head = record {
      setting_is = ap the_setting c.in_ok-judge.ensures.setting;
      root_is = ap (λ (f : Fix). node_of f) c.in_ok-judge.ensures.root;
      cert_is = λ tree. ap (λ (x : Claims). cert_with x tree) c.in_ok-judge.ensures.claims ∙ c.of_head.ensures.same tree;
    } in
    let p = err_from_is_err_and c.from_residual-in_err-read_tree.result c.from_residual-in_err-read_tree.ensures.1 in
    let same : p.0 ≡ c.in_err-read_tree.field-0.0 = cc (p.2) in
    let told = c.in_err-read_tree.ensures.fault in
    rw p.1 (told.0, told.1, subst (IsAtFault setting root head told.0) (sym same) (fault-at judge setting root head told.0 c.in_err-read_tree.field-0.0 is told.2))

pub returns-clause-checked : goal.returns-clause-checked
returns-clause-checked g c =
    let judge = c.in_ok-judge.judge in
    let setting = the_setting c.args.setting.now in
    let root = node_of c.args.root.now in
    let head = c.args.head.now in
    let is : IsJudgeAt judge setting root head = record {
      setting_is = ap the_setting c.in_ok-judge.ensures.setting;
      root_is = ap (λ (f : Fix). node_of f) c.in_ok-judge.ensures.root;
      cert_is = λ tree. ap (λ (x : Claims). cert_with x tree) c.in_ok-judge.ensures.claims ∙ c.of_head.ensures.same tree;
    } in
    let whole = c.in_ok-read_tree.ensures.whole in
    let w = whole.2 in (
      whole.0,
      whole.1,
      record {
        tree = w.tree;
        tree_is = w.tree_is;
        text_is = w.text_is;
        checked_is = record { budget_is = refl; cost_is = refl; bound_is = to_z-of_z w128 head.bound (search rules); proof = whole-proof judge setting root head whole.0 is w };
      },
    )

pub returns-clause-bounds : goal.returns-clause-bounds
returns-clause-bounds g c =
    let judge = c.in_ok-judge.judge in
    let setting = the_setting c.args.setting.now in
    let root = node_of c.args.root.now in
    let head = c.args.head.now in
    let is : IsJudgeAt judge setting root head = record {
      setting_is = ap the_setting c.in_ok-judge.ensures.setting;
      root_is = ap (λ (f : Fix). node_of f) c.in_ok-judge.ensures.root;
      cert_is = λ tree. ap (λ (x : Claims). cert_with x tree) c.in_ok-judge.ensures.claims ∙ c.of_head.ensures.same tree;
    } in
    let whole = c.in_ok-read_tree.ensures.whole in
    let w = whole.2 in
    rw (to_z-of_z w128 head.bound (search rules)) (bounds-below setting root (cert_at head w.tree) c.args.setting.now.limits (whole-proof judge setting root head whole.0 is w))
