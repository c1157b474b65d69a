use Rattle.std.proofs.Common.{◌≡◌, ◌∙◌, ◌++◌, ◌∷◌, [], ℕ, length, ap, codes, rules, ℤ, to_z, of_z}
use Rattle.std.specs.Int.{w128}
use Rattle.certificate.specs.Answers.{numbers_from}
use Rattle.certificate.specs.Texts.{word, bound_line}
use Rattle.certificate.proofs.WriteLaws.{head-written}
use Rattle.certificate.proofs.write.push_head.Goals as goal

pub returns : goal.returns
returns c =
    let answer = c.args.answer.now in
    let sets : c.len.result ≡ length answer.sets = c.len.ensures in
    let same : to_z w128 (of_z w128 answer.bound) ≡ answer.bound = search rules in
    let bound : c.push_bound.new.out.items ≡ c.push_number-3.new.out.items ++ (bound_line answer.bound ++ 10 ∷ []) =
    c.in_ok-push_bound.ensures ∙ ap (λ (z : ℤ). c.push_number-3.new.out.items ++ (bound_line z ++ 10 ∷ [])) same in
    head-written c.args.version c.args.budget (numbers_from 1 answer.config.on) answer.cost answer.bound (length answer.sets) c.args.out.now.items c.push_number.new.out.items c.push_number-2.new.out.items c.push_config.new.out.items c.push_number-3.new.out.items c.push_bound.new.out.items c.push_number-4.new.out.items
    c.in_ok-push_number.ensures c.in_ok-push_number-2.ensures c.in_ok-push_config.ensures c.in_ok-push_number-3.ensures bound
    (c.in_ok-push_number-4.ensures ∙ ap (λ (n : ℕ). c.push_bound.new.out.items ++ ((codes "sets" ++ word n) ++ 10 ∷ [])) sets)
