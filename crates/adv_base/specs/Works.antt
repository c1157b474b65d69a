-- What statements read.
use Rattle.std.specs.Prelude.{Option, Some, None}
use Rattle.adv_base.specs.declared.workload.Work.{Work}
use Rattle.adv_base.specs.declared.workload.Work.TheVariants.{Select, Update, Delete, Insert}
use Rattle.adv_base.specs.declared.workload.block.Block.{Block}

-- the block of a statement; an INSERT has none
abbrev pub block_of : Work → Option Block
block_of (Select block) = Some block
block_of (Update block columns) = Some block
block_of (Delete block) = Some block
block_of (Insert table rows) = None
