-- What retells the loops of the code, and bounds on numbers; what is public cites of it what is made once and handed on.
pub mod CostsAnew
pub mod CostsByLists
pub mod Limits
pub mod Marks
pub mod Rows
pub mod SlotBySlot
