use Rattle.std.proofs.Common.{◌*◌, length, ap, ◌∙◌}
use Rattle.planner.proofs.Tabling.{blank_table}
use Rattle.planner.proofs.search.Search.new.Goals as goal

pub invariant_of-result : goal.invariant_of-result
invariant_of-result c =
    let ways = c.in_ok-ways.ways in
    let wide = ap length c.as_slice.ensures.value ∙ c.in_ok-row.ensures.count ∙ c.width_of-width.ensures in
    let count = c.in_ok-cells.ensures.count ∙ ap (λ n. n * length c.as_slice.result.now) c.len.ensures ∙ ap (λ n. length ways.task.now.rows * n) wide in
    record {
      table = blank_table ways c.in_ok-cells.cells.items count c.in_ok-cells.ensures.blank;
      row_each = c.in_ok-row.ensures.count ∙ c.width_of-width.ensures;
    }
