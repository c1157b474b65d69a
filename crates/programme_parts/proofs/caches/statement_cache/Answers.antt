use Rattle.std.proofs.Common.{◌≡◌, sym}
use Rattle.std.specs.Prelude.{Some}
use Rattle.adv_base.specs.declared.catalogue.Catalogue.{Catalogue}
use Rattle.adv_base.specs.declared.workload.Statement.{Statement}
use Rattle.adv_base.specs.declared.workload.block.Block.{Block}
use Rattle.plan_model.specs.Totals.{block_of}
use Rattle.inum_cache.specs.declared.fault.CacheFault.{CacheFault}
use Rattle.inum_cache.specs.declared.fault.CacheFault.TheVariants.{Memory, TooManyCombinations}
use Rattle.bip_model.proofs.Totalling.{named-of}
use Rattle.programme_parts.specs.Caches.{IsBlockFault, IsStatementFault}
use Rattle.programme_parts.proofs.Counting.{few-block, few-none}
use Rattle.programme_parts.proofs.caches.statement_cache.Goals as goal

pub block_cache-requires : goal.block_cache-requires
block_cache-requires c = named-of c.args.cat.now c.args.statement.now.work c.in-Some.block.now c.requires (sym c.in-Some.ensures)

pub returns-in-None-clause-few : goal.returns-in-None-clause-few
returns-in-None-clause-few c = few-none c.args.cat.now c.args.statement.now (sym c.in-None.ensures)

pub returns-in-Ok-clause-few : goal.returns-in-Ok-clause-few
returns-in-Ok-clause-few c = few-block c.args.cat.now c.args.statement.now c.in-Some.block.now (sym c.in-Some.ensures) c.in-Ok.ensures.few

-- a fault of a block is one of its statement
of-block : (cat : Catalogue) (statement : Statement) (block : Block) (fault : CacheFault) → block_of statement.work ≡ Some block → IsBlockFault cat block fault → IsStatementFault cat statement fault
of-block cat statement block Memory there own = tt
of-block cat statement block (TooManyCombinations count) there own = record { block = block; block_is = there; has = own.0; beyond = own.1 }

pub returns-in-Err-clause-fault : goal.returns-in-Err-clause-fault
returns-in-Err-clause-fault c = of-block c.args.cat.now c.args.statement.now c.in-Some.block.now c.in-Err.fault (sym c.in-Some.ensures) c.in-Err.ensures.fault
