use Rattle.catalogue.proofs.tables.table.Goals as goal

pub invariant_of-result : goal.invariant_of-result
invariant_of-result c = record {
  limits = record {
    rows_most = c.in_ok-rows.ensures.most.0;
    pages_most = c.in_ok-rows.ensures.most.1;
    columns_some = c.in_ok-columns.ensures.count.0;
    columns_most = c.in_ok-columns.ensures.count.1;
    keys = c.in_ok-columns.ensures.known;
  };
}
