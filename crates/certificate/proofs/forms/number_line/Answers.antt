use Rattle.std.proofs.Common.{ℕ, List, ◌∷◌, ◌++◌, ◌∙◌, sym, ap}
use Rattle.std.specs.Prelude.{decimal}
use Rattle.std.proofs.lemmas.List.{append_cancel_left}
use Rattle.certificate.proofs.forms.number_line.Goals as goal

pub returns-in-None : goal.returns-in-None
returns-in-None c = λ n h. c.in-None.ensures (32 ∷ decimal n) h.parts

pub returns-in-None-last_number : goal.returns-in-None-last_number
returns-in-None-last_number c = λ n h. c.in-None-last_number.ensures n (record {
  parts = append_cancel_left c.args.word.now c.in-Some.rest.now (32 ∷ decimal n) (sym c.in-Some.ensures ∙ h.parts);
  low = h.low;
  high = h.high;
})

pub returns-in-Some-last_number : goal.returns-in-Some-last_number
returns-in-Some-last_number c = record {
  parts = c.in-Some.ensures ∙ ap (λ (xs : List ℕ). c.args.word.now ++ xs) c.in-Some-last_number.ensures.parts;
  low = c.in-Some-last_number.ensures.low;
  high = c.in-Some-last_number.ensures.high;
}
