-- The two texts that a seed makes.
use Rattle.std.specs.Prelude.{ℕ, ◌*◌, List, ◌++◌, codes}
use Rattle.workload_gen.specs.Draws.{after}
use Rattle.workload_gen.specs.Tables.{tables_text}
use Rattle.workload_gen.specs.Statements.{statements_text}

unfoldable pub catalogue_text : ℕ → ℕ → List ℕ
catalogue_text seed tables = codes "version = 1\n" ++ tables_text tables 1 seed

-- the draws go on behind those of the catalogue
unfoldable pub workload_text : ℕ → ℕ → ℕ → List ℕ
workload_text seed tables statements = statements_text statements tables (after (3 * tables) seed)
