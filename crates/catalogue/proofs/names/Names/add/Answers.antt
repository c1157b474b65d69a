use Rattle.catalogue.specs.Values.{folded}
use Rattle.catalogue.proofs.Lists.{is_new-texts, names-texts}
use Rattle.catalogue.proofs.names.Names.add.Goals as goal

pub returns-clause-is_new : goal.returns-clause-is_new
returns-clause-is_new c =
    is_new-texts c.in_ok-folded.folded c.self.inside.seen.keys c.args.self.now (folded c.args.name.now) c.in_ok-added.added c.self.view_is c.in_ok-folded.ensures.ok c.in_ok-added.ensures.added

pub returns-clause-names : goal.returns-clause-names
returns-clause-names c =
    names-texts c.in_ok-folded.folded c.self.inside.seen.keys c.insert_full.new.self.keys c.args.self.now (folded c.args.name.now) c.in_ok-added.added c.self.view_is c.in_ok-folded.ensures.ok c.in_ok-added.ensures.added c.in_ok-added.ensures.keys
