use Rattle.programme_parts.proofs.Cached.{cached-made, few-made, fault-made}
use Rattle.programme_parts.proofs.caches.block_cache.Goals as goal

pub returns-in-Ok-clause-cache : goal.returns-in-Ok-clause-cache
returns-in-Ok-clause-cache c = cached-made c.args.cat.now c.args.block.now c.in-Ok.task c.build.result c.in-Ok.ensures c.build.ensures.made

pub returns-in-Ok-clause-few : goal.returns-in-Ok-clause-few
returns-in-Ok-clause-few c = few-made c.args.cat.now c.args.block.now c.in-Ok.task c.build.result c.in-Ok.ensures c.build.ensures.many

pub returns-in-Ok-clause-fault : goal.returns-in-Ok-clause-fault
returns-in-Ok-clause-fault c = fault-made c.args.cat.now c.args.block.now c.in-Ok.task c.build.result c.in-Ok.ensures c.build.ensures.many c.build.ensures.few
