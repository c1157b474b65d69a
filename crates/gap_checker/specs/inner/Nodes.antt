-- Nodes of the search, as the checker keeps them.
use Rattle.std.specs.Prelude.{List, map, reverse}
use Rattle.adv_base.specs.Nodes as nodes
use Rattle.bip_model.specs.declared.fix.Fix.{Fix}
use Rattle.bip_model.specs.Views.{node_of}

-- those that are kept, the last one first
abbrev pub starts_of : List Fix → List nodes.Node
starts_of kept = reverse (map node_of kept)
