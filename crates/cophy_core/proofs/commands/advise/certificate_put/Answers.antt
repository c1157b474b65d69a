use Rattle.std.proofs.Common.{ℕ, subst}
use Rattle.certificate.specs.Answers.{answer_cert}
use Rattle.certificate.specs.Certificates.{IsCertificate}
use Rattle.cophy_core.proofs.commands.advise.certificate_put.Goals as goal

pub returns : goal.returns
returns c =
    let is_text = subst (λ (version : ℕ). IsCertificate c.in_ok-bytes.bytes (answer_cert c.args.programme.now version c.args.budget c.args.answer.now)) c.version_of.ensures c.in_ok-bytes.ensures in
    record {
      bytes = c.in_ok-bytes.bytes;
      certificate_is = record { programme = c.args.programme.now; stands = c.requires.stands; is_text = is_text };
      puts_are = c.in_ok-puts.ensures;
    }
