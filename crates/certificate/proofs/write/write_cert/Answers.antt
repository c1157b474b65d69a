use Rattle.std.proofs.Common.{◌≡◌, ◌∙◌, ◌++◌, ◌∷◌, [], ℕ, List, length, ap, codes}
use Rattle.adv_base.specs.declared.limits.TheConstants.{MOST_CANDIDATES}
use Rattle.bip_model.specs.declared.answer.Node.{Node}
use Rattle.bip_model.specs.declared.multipliers.Multipliers.{Multipliers}
use Rattle.certificate.specs.Answers.{numbers_from}
use Rattle.certificate.specs.Texts.{text_of, word, head_lines}
use Rattle.certificate.specs.inner.Writing.{sets_text, nodes_text}
use Rattle.certificate.proofs.Places.{answer-keeps}
use Rattle.certificate.proofs.WriteLaws.{cert-written}
use Rattle.certificate.proofs.write.write_cert.Goals as goal

pub returns : goal.returns
returns c =
    let answer = c.args.answer.now in
    let prog = c.args.prog.now in
    let flags : length answer.config.on ≡ MOST_CANDIDATES = c.has_all_flags.ensures in
    let head : List ℕ = text_of (head_lines c.args.version c.args.budget (numbers_from 1 answer.config.on) answer.cost answer.bound (length answer.sets)) in
    let size : c.len.result ≡ length answer.tree = c.len.ensures in
    record {
      limits = answer-keeps prog c.args.version c.args.budget answer c.requires.some_version c.requires.version flags c.requires.order c.requires.limits;
      text = cert-written prog c.args.version c.args.budget answer c.push_head.new.out.items c.push_sets.new.out.items c.push_number.new.out.items c.push_nodes.new.out.items c.extend_from_slice.new.self.items
          (c.in_ok-push_head.ensures ∙ ap (λ (t : List ℕ). t ++ head) c.new-out.ensures.items)
          (c.in_ok-push_sets.ensures ∙ ap (λ (ss : List Multipliers). c.push_head.new.out.items ++ sets_text prog ss) c.as_slice.ensures)
          (c.in_ok-push_number.ensures ∙ ap (λ (n : ℕ). c.push_sets.new.out.items ++ ((codes "tree" ++ word n) ++ 10 ∷ [])) size)
          (c.in_ok-push_nodes.ensures ∙ ap (λ (ns : List Node). c.push_number.new.out.items ++ nodes_text ns) c.as_slice-2.ensures)
          c.in_ok-extend_from_slice.ensures.items;
    }
