use Rattle.catalogue.proofs.KeyFaults.{gives-none}
use Rattle.catalogue.proofs.document.read_catalogue.Goals as goal

pub returns-clause-not_toml : goal.returns-clause-not_toml
returns-clause-not_toml c = gives-none c.args.bytes.now c.catalogue_of_file.result c.catalogue_of_file.ensures
