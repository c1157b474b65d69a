-- The text of advice: which of the candidates to make, and how good that is.
use Rattle.std.specs.Prelude.{ℕ, suc, ◌+◌, ◌-◌, ◌==◌, if◌then◌else◌, ℤ, pos, negsuc, List, ◌++◌, length, codes}
use Rattle.adv_base.specs.declared.catalogue.Catalogue.{Catalogue}
use Rattle.adv_base.specs.declared.catalogue.index.IndexShape.{IndexShape}
use Rattle.adv_base.specs.Configs.{config_pages}
use Rattle.report.specs.declared.done.Advice.{Advice}
use Rattle.report.specs.Listings.{pick_lines}
use Rattle.report.specs.Words.{numbered, signed, line}

-- the cost less the bound, which is at most the cost
abbrev pub gap : ℕ → ℤ → ℕ
gap cost (pos bound) = cost - bound
gap cost (negsuc below) = cost + suc below

-- the budget, and how many candidates there are, with those left over
abbrev pub proposal_text : ℕ → ℕ → ℕ → List ℕ
proposal_text budget count left_over =
    line (numbered (codes "budget ") budget) ++ line (numbered (codes "candidates ") count ++ numbered (codes " left over ") left_over)

-- the pages of what is picked, what the workload costs then, and what no choice undercuts
abbrev pub worth_text : ℕ → ℕ → ℤ → List ℕ
worth_text size cost bound =
    line (numbered (codes "size ") size)
    ++ (line (numbered (codes "cost ") cost) ++ (line (signed (codes "bound ") bound) ++ line (numbered (codes "gap ") (gap cost bound))))

-- the search ended by itself where no gap is left
abbrev pub end_word : ℕ → List ℕ
end_word left = if left == 0 then codes "finished" else codes "stopped"

-- how many nodes the search made, of how many that it might, and how it ended
abbrev pub search_text : ℕ → ℕ → ℕ → List ℕ
search_text made nodes left = line (numbered (codes "nodes ") made ++ numbered (codes " of ") nodes) ++ line (end_word left)

-- advice that picks some of these candidates
abbrev pub advice_text : Catalogue → List IndexShape → Advice → List ℕ
advice_text cat shapes advice =
    proposal_text advice.budget (length shapes) advice.left_over
    ++ (pick_lines cat advice.answer.config 1 shapes
    ++ (worth_text (config_pages cat shapes advice.answer.config) advice.answer.cost advice.answer.bound
    ++ search_text (length advice.answer.tree) advice.nodes (gap advice.answer.cost advice.answer.bound)))
