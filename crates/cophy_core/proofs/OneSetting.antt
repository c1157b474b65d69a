-- Bytes describe one setting.
use Rattle.std.proofs.Common.{◌≡◌, ℕ, ◌≤◌, List, [], ◌∷◌, length, map, Option, Ok, refl, sym, ap, subst, ◌∙◌, arith}
use Rattle.std.specs.Prelude.{All, ◌≢◌, ℤ, take}
use Rattle.std.proofs.lemmas.List.{length-map, length-take}
use Rattle.std.proofs.lemmas.List.Elements.{All-head, All-tail}
use denote.Struct.Props.{props}
use mathlib.Core.HLevel.{is_prop→PathP}
use Rattle.adv_base.specs.declared.catalogue.Catalogue.{Catalogue}
use Rattle.adv_base.specs.declared.catalogue.column.Column.{Column}
use Rattle.adv_base.specs.declared.catalogue.index.Index.{Index}
use Rattle.adv_base.specs.declared.catalogue.index.IndexShape.{IndexShape}
use Rattle.adv_base.specs.declared.catalogue.rates.Rates.{Rates}
use Rattle.adv_base.specs.declared.catalogue.table.Table.{Table}
use Rattle.adv_base.specs.declared.limits.TheConstants.{MOST_CANDIDATES}
use Rattle.adv_base.specs.declared.workload.Statement.{Statement}
use Rattle.adv_base.specs.declared.workload.Work.{Work}
use Rattle.adv_base.specs.declared.workload.Work.TheVariants as works
use Rattle.adv_base.specs.declared.workload.block.Block.{Block}
use Rattle.adv_base.specs.declared.workload.parts.Edge.{Edge}
use Rattle.adv_base.specs.declared.workload.parts.Item.{Item}
use Rattle.adv_base.specs.declared.workload.parts.Slot.{Slot}
use Rattle.adv_base.specs.declared.workload.predicate.Pred.{Pred}
use Rattle.adv_base.specs.declared.workload.predicate.Test.{Test}
use Rattle.adv_base.specs.Limits.Blocks.{BlockLimits}
use Rattle.adv_base.specs.Limits.Catalogues.{CatalogueLimits}
use Rattle.adv_base.specs.Limits.Numbers.{ColumnLimits, KeyLimits, RatesLimits}
use Rattle.adv_base.specs.Limits.Tables.{TableLimits}
use Rattle.adv_base.specs.Limits.Tests.{TestLimits}
use Rattle.adv_base.specs.Limits.Works.{StatementLimits}
use Rattle.adv_base.specs.Settings.{TheSetting}
use Rattle.binder.specs.Plain.{plain_pred, plain_edge, plain_block, plain_work, plain_statement}
use Rattle.binder.specs.Statements.{statements_of}
use Rattle.candidates.specs.Candidates.{proposal_of, IsNotUnique, fresh_proposals}
use Rattle.candidates.specs.Proposals.{Proposal}
use Rattle.catalogue.specs.Content.{plain_column, plain_index, plain_table, plain_rates, plain_catalogue}
use Rattle.sql_reader.proofs.Unique.{one_workload}
use Rattle.cophy_core.specs.Settings.{IsCatalogueOf, AreStatementsOf, IsSetting}

-- lists whose plain parts are the same are the same, where so it is with what they hold
same_lists : {A B : Type 0} (plain : A → B) → ((x y : A) → plain x ≡ plain y → x ≡ y) → (xs ys : List A) → map plain xs ≡ map plain ys → xs ≡ ys
same_lists plain one [] [] e = refl
same_lists plain one [] (y ∷ ys) e = absurd cc
same_lists plain one (x ∷ xs) [] e = absurd cc
same_lists plain one (x ∷ xs) (y ∷ ys) e =
    let head : plain x ≡ plain y = cc in
    let tail : map plain xs ≡ map plain ys = cc in
    let first = one x y head in
    let rest = same_lists plain one xs ys tail in
    cc

-- ## Catalogues

rates_prop : (a b c d e f g : ℕ) → IsProp (RatesLimits a b c d e f g)
rates_prop a b c d e f g = hlevel props

same_rates : (x y : Rates) → plain_rates x ≡ plain_rates y → x ≡ y
same_rates x y e =
    let limits = is_prop→PathP (λ i. RatesLimits (e i).seq_page (e i).rand_page (e i).row_cpu (e i).sort_cpu (e i).merge_cpu (e i).hash_cpu (e i).group_cpu)
    (λ i. rates_prop (e i).seq_page (e i).rand_page (e i).row_cpu (e i).sort_cpu (e i).merge_cpu (e i).hash_cpu (e i).group_cpu) x.limits y.limits in
    λ i. record { seq_page = (e i).seq_page; rand_page = (e i).rand_page; row_cpu = (e i).row_cpu; sort_cpu = (e i).sort_cpu; merge_cpu = (e i).merge_cpu; hash_cpu = (e i).hash_cpu; group_cpu = (e i).group_cpu; limits = limits i }

column_prop : (width : ℕ) (distinct : Option ℕ) (low high : Option ℤ) (bounds : List ℤ) → IsProp (ColumnLimits width distinct low high bounds)
column_prop width distinct low high bounds = hlevel props

same_column : (x y : Column) → plain_column x ≡ plain_column y → x ≡ y
same_column x y e =
    let limits = is_prop→PathP (λ i. ColumnLimits (e i).width (e i).distinct (e i).low (e i).high (e i).bounds)
    (λ i. column_prop (e i).width (e i).distinct (e i).low (e i).high (e i).bounds) x.limits y.limits in
    λ i. record { name = (e i).name; kind = (e i).kind; width = (e i).width; distinct = (e i).distinct; low = (e i).low; high = (e i).high; bounds = (e i).bounds; limits = limits i }

keys_prop : (keys : List ℕ) → IsProp (KeyLimits keys)
keys_prop keys = hlevel props

pub same_shape : (x y : IndexShape) → x.table ≡ y.table → x.keys ≡ y.keys → x.unique ≡ y.unique → x.clustered ≡ y.clustered → x ≡ y
same_shape x y table keys unique clustered =
    let limits = is_prop→PathP (λ i. KeyLimits (keys i)) (λ i. keys_prop (keys i)) x.limits y.limits in
    λ i. record { table = table i; keys = keys i; unique = unique i; clustered = clustered i; limits = limits i }

same_index : (x y : Index) → plain_index x ≡ plain_index y → x ≡ y
same_index x y e =
    let shape = same_shape x.shape y.shape (λ i. (e i).table) (λ i. (e i).keys) (λ i. (e i).unique) (λ i. (e i).clustered) in
    λ i. record { name = (e i).name; shape = shape i }

table_prop : (rows pages : ℕ) (columns : List Column) (indexes : List Index) → IsProp (TableLimits rows pages columns indexes)
table_prop rows pages columns indexes = hlevel props

same_table : (x y : Table) → plain_table x ≡ plain_table y → x ≡ y
same_table x y e =
    let columns = same_lists plain_column same_column x.columns y.columns (λ i. (e i).columns) in
    let indexes = same_lists plain_index same_index x.indexes y.indexes (λ i. (e i).indexes) in
    let limits = is_prop→PathP (λ i. TableLimits (e i).rows (e i).pages (columns i) (indexes i))
    (λ i. table_prop (e i).rows (e i).pages (columns i) (indexes i)) x.limits y.limits in
    λ i. record { name = (e i).name; rows = (e i).rows; pages = (e i).pages; may_cluster = (e i).may_cluster; columns = columns i; indexes = indexes i; limits = limits i }

catalogue_prop : (tables : List Table) → IsProp (CatalogueLimits tables)
catalogue_prop tables = hlevel props

same_catalogue : (x y : Catalogue) → plain_catalogue x ≡ plain_catalogue y → x ≡ y
same_catalogue x y e =
    let rates = same_rates x.rates y.rates (λ i. (e i).rates) in
    let tables = same_lists plain_table same_table x.tables y.tables (λ i. (e i).tables) in
    let limits = is_prop→PathP (λ i. CatalogueLimits (tables i)) (λ i. catalogue_prop (tables i)) x.limits y.limits in
    λ i. record { rates = rates i; tables = tables i; limits = limits i }

-- bytes describe one catalogue
pub one_catalogue : (bytes : List ℕ) (x y : Catalogue) → IsCatalogueOf bytes x → IsCatalogueOf bytes y → x ≡ y
one_catalogue bytes x y a b =
    let same : plain_catalogue x ≡ plain_catalogue y = cc in
    same_catalogue x y same

-- ## Statements

pred_prop : (test : Test) → IsProp (TestLimits test)
pred_prop test = hlevel props

same_pred : (x y : Pred) → plain_pred x ≡ plain_pred y → x ≡ y
same_pred x y e =
    let limits = is_prop→PathP (λ i. TestLimits (e i).test) (λ i. pred_prop (e i).test) x.limits y.limits in
    λ i. record { slot = (e i).slot; column = (e i).column; test = (e i).test; limits = limits i }

apart_prop : (left right : ℕ) → IsProp (left ≢ right)
apart_prop left right = hlevel props

same_edge : (x y : Edge) → plain_edge x ≡ plain_edge y → x ≡ y
same_edge x y e =
    let apart = is_prop→PathP (λ i. (e i).left ≢ (e i).right) (λ i. apart_prop (e i).left (e i).right) x.apart y.apart in
    λ i. record { left = (e i).left; left_column = (e i).left_column; right = (e i).right; right_column = (e i).right_column; apart = apart i }

block_prop : (slots : List Slot) (preds : List Pred) (edges : List Edge) (group : Option (List Item)) (order : List Item) → IsProp (BlockLimits slots preds edges group order)
block_prop slots preds edges group order = hlevel props

same_block : (x y : Block) → plain_block x ≡ plain_block y → x ≡ y
same_block x y e =
    let preds = same_lists plain_pred same_pred x.preds y.preds (λ i. (e i).preds) in
    let edges = same_lists plain_edge same_edge x.edges y.edges (λ i. (e i).edges) in
    let limits = is_prop→PathP (λ i. BlockLimits (e i).slots (preds i) (edges i) (e i).group (e i).order)
    (λ i. block_prop (e i).slots (preds i) (edges i) (e i).group (e i).order) x.limits y.limits in
    λ i. record { slots = (e i).slots; preds = preds i; edges = edges i; group = (e i).group; order = (e i).order; may_cover = (e i).may_cover; limits = limits i }

same_work : (x y : Work) → plain_work x ≡ plain_work y → x ≡ y
same_work (works.Select a) (works.Select b) e = let same : plain_block a ≡ plain_block b = cc in ap works.Select (same_block a b same)
same_work (works.Update a columns) (works.Update b others) e =
    let same : plain_block a ≡ plain_block b = cc in
    let sets : columns ≡ others = cc in
    let block = same_block a b same in
    cc
same_work (works.Delete a) (works.Delete b) e = let same : plain_block a ≡ plain_block b = cc in ap works.Delete (same_block a b same)
same_work (works.Insert table rows) (works.Insert other more) e =
    let tables : table ≡ other = cc in
    let counts : rows ≡ more = cc in
    cc
same_work (works.Select a) (works.Update b others) e = absurd cc
same_work (works.Select a) (works.Delete b) e = absurd cc
same_work (works.Select a) (works.Insert other more) e = absurd cc
same_work (works.Update a columns) (works.Select b) e = absurd cc
same_work (works.Update a columns) (works.Delete b) e = absurd cc
same_work (works.Update a columns) (works.Insert other more) e = absurd cc
same_work (works.Delete a) (works.Select b) e = absurd cc
same_work (works.Delete a) (works.Update b others) e = absurd cc
same_work (works.Delete a) (works.Insert other more) e = absurd cc
same_work (works.Insert table rows) (works.Select b) e = absurd cc
same_work (works.Insert table rows) (works.Update b others) e = absurd cc
same_work (works.Insert table rows) (works.Delete b) e = absurd cc

statement_prop : (weight : ℕ) (work : Work) → IsProp (StatementLimits weight work)
statement_prop weight work = hlevel props

pub same_statement : (x y : Statement) → plain_statement x ≡ plain_statement y → x ≡ y
same_statement x y e =
    let work = same_work x.work y.work (λ i. (e i).work) in
    let limits = is_prop→PathP (λ i. StatementLimits (e i).weight (work i)) (λ i. statement_prop (e i).weight (work i)) x.limits y.limits in
    λ i. record { weight = (e i).weight; work = work i; limits = limits i }

-- a text means one list of statements over a catalogue
pub one_list : (cat : Catalogue) (text : List ℕ) (xs ys : List Statement) → AreStatementsOf cat text xs → AreStatementsOf cat text ys → xs ≡ ys
one_list cat text xs ys a b =
    let parsed = one_workload text a.parsed b.parsed a.is_workload b.is_workload in
    let bound = subst (λ ps. statements_of cat text ps ≡ Ok (map plain_statement xs)) parsed a.bound in
    let same : map plain_statement xs ≡ map plain_statement ys = let other = b.bound in cc in
    same_lists plain_statement same_statement xs ys same

-- ## Candidates

same_shapes : (xs ys : List IndexShape) → map proposal_of xs ≡ map proposal_of ys → All IsNotUnique xs → All IsNotUnique ys → xs ≡ ys
same_shapes [] [] e a b = refl
same_shapes [] (y ∷ ys) e a b = absurd cc
same_shapes (x ∷ xs) [] e a b = absurd cc
same_shapes (x ∷ xs) (y ∷ ys) e a b =
    let unique = All-head IsNotUnique x xs a ∙ sym (All-head IsNotUnique y ys b) in
    let head : proposal_of x ≡ proposal_of y = cc in
    let tail : map proposal_of xs ≡ map proposal_of ys = cc in
    let first = same_shape x y (λ i. (head i).table) (λ i. (head i).keys) unique (λ i. (head i).clustered) in
    let rest = same_shapes xs ys tail (All-tail IsNotUnique x xs a) (All-tail IsNotUnique y ys b) in
    cc

-- ## Settings

same_parts : (x y : TheSetting) → x.cat ≡ y.cat → x.statements ≡ y.statements → x.shapes ≡ y.shapes → x ≡ y
same_parts x y cat statements shapes = λ i. record { cat = cat i; statements = statements i; shapes = shapes i }

-- the bytes of a catalogue and of a workload describe one setting
pub one_setting : (cat load : List ℕ) (x y : TheSetting) (p q : ℕ) → IsSetting cat load x p → IsSetting cat load y q → x ≡ y
one_setting cat load x y p q a b =
    let cats = one_catalogue cat x.cat y.cat a.catalogue_is b.catalogue_is in
    let mine = subst (λ (c : Catalogue). AreStatementsOf c load x.statements) cats a.statements_are in
    let lists = one_list y.cat load x.statements y.statements mine b.statements_are in
    let fresh = ap (λ (c : Catalogue). fresh_proposals c x.statements) cats ∙ ap (λ (s : List Statement). fresh_proposals y.cat s) lists in
    let proposed = a.candidates_are.proposed ∙ ap (λ (ps : List Proposal). take MOST_CANDIDATES ps) fresh ∙ sym b.candidates_are.proposed in
    same_parts x y cats lists (same_shapes x.shapes y.shapes proposed a.candidates_are.not_unique b.candidates_are.not_unique)

-- it has no more candidates than there may be
pub few_shapes : (cat load : List ℕ) (setting : TheSetting) (left_over : ℕ) → IsSetting cat load setting left_over → length setting.shapes ≤ MOST_CANDIDATES
few_shapes cat load setting left_over is =
    let count : length (map proposal_of setting.shapes) ≡ length (take MOST_CANDIDATES (fresh_proposals setting.cat setting.statements)) = ap length is.candidates_are.proposed in
    omega (arith, count, length-map setting.shapes proposal_of, length-take MOST_CANDIDATES (fresh_proposals setting.cat setting.statements))
