use Rattle.std.proofs.Common.{◌∙◌}
use Rattle.catalogue.specs.Values.{folded}
use Rattle.catalogue.proofs.Lists.{number_of-texts}
use Rattle.catalogue.proofs.names.Names.number_of.Goals as goal

pub returns-clause-exact : goal.returns-clause-exact
returns-clause-exact c =
    number_of-texts c.self.inside.seen.keys c.args.self.now (folded c.args.name.now) c.as_str.result.now c.get_index_of.result c.self.view_is (c.as_str.ensures.value ∙ c.in_ok-wanted.ensures.ok) c.get_index_of.ensures.index
