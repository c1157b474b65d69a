use Rattle.certificate.proofs.Sizes.{texts-fit}
use Rattle.certificate.proofs.laws.written_certificates_fit.Goals as goal

pub returns : goal.returns
returns c = texts-fit
