use Rattle.bip_model.specs.Proves.{free_node}
use Rattle.bip_model.proofs.Showing.{shown, proved-bound, below-free}
use Rattle.bip_model.proofs.laws.shown_bounds.Goals as goal

pub returns-clause-tree : goal.returns-clause-tree
returns-clause-tree c = shown

pub returns-clause-proof : goal.returns-clause-proof
returns-clause-proof c = proved-bound

pub returns-clause-free : goal.returns-clause-free
returns-clause-free c = λ rule setting budget config cost bound sets list limits proves.
    record {
      all = λ other total is fits total_is. proved-bound rule setting budget free_node config cost bound sets list other total limits proves is fits (below-free other) total_is;
      own = proved-bound rule setting budget free_node config cost bound sets list config cost limits proves proves.members proves.fits (below-free config) proves.cost_is;
    }
