use Rattle.binder.proofs.statements.work.Goals as goal

pub select_block-requires : goal.select_block-requires
select_block-requires c = c.requires.selects _ c.in-Select.is
