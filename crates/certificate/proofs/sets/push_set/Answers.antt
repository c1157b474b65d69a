use Rattle.std.proofs.Common.{◌≡◌, ◌∙◌, ◌++◌, ◌∷◌, [], ℕ, List, length, sum_by, sym, ap, append_assoc}
use Rattle.bip_model.specs.declared.part.Part.{Part}
use Rattle.bip_model.specs.Values.{part_grants}
use Rattle.bip_model.specs.Views.{part_places}
use Rattle.certificate.specs.Answers.{entries_of, rent_count}
use Rattle.certificate.specs.Texts.{set_line}
use Rattle.certificate.specs.inner.Writing.{entries_text}
use Rattle.certificate.proofs.WriteLaws.{grant-count-is, set-text}
use Rattle.certificate.proofs.sets.push_set.Goals as goal

pub push_parts-requires : goal.push_parts-requires
push_parts-requires c =
    ap length c.as_slice-rents.ensures ∙ c.requires.one_each ∙ grant-count-is c.args.prog.now ∙ ap (λ (ps : List Part). sum_by part_grants ps) (sym c.as_slice.ensures)

pub returns : goal.returns
returns c =
    let out = c.args.out.now.items in
    let set = c.args.set.now in
    let rents : c.as_slice-rents.result.now ≡ set.lambda = c.as_slice-rents.ensures in
    let parts : c.as_slice.result.now ≡ c.args.prog.now.parts = c.as_slice.ensures in
    let count : c.rent_count.result ≡ rent_count set.lambda = c.rent_count.ensures ∙ ap rent_count rents in
    let line : c.push_set_line.new.out.items ≡ out ++ (set_line set.mu (rent_count set.lambda) ++ 10 ∷ []) =
    c.in_ok-push_set_line.ensures ∙ ap (λ (n : ℕ). out ++ (set_line set.mu n ++ 10 ∷ [])) count in
    c.in_ok-push_parts.ensures ∙ (λ i. line i ++ entries_text (entries_of (part_places (parts i)) (rents i)))
    ∙ append_assoc out (set_line set.mu (rent_count set.lambda) ++ 10 ∷ []) (entries_text (entries_of (part_places c.args.prog.now.parts) set.lambda))
    ∙ ap (λ (t : List ℕ). out ++ t) (sym (set-text c.args.prog.now set c.requires))
