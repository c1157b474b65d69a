use Rattle.plan_model.proofs.Caching.{cache-decomposes, kept-decompose}
use Rattle.plan_model.proofs.laws.cache_decomposes.Goals as goal

pub returns-clause-each : goal.returns-clause-each
returns-clause-each c = cache-decomposes

pub returns-clause-kept : goal.returns-clause-kept
returns-clause-kept c = kept-decompose
