use Rattle.certificate.proofs.OneText.{one-certificate, one-text}
use Rattle.certificate.proofs.laws.texts_are_one.Goals as goal

pub returns-clause-certificate : goal.returns-clause-certificate
returns-clause-certificate c = one-certificate

pub returns-clause-text : goal.returns-clause-text
returns-clause-text c = one-text
