-- The text of a certificate, line by line.
use Rattle.std.specs.Prelude.{ℕ, ℤ, List, [], ◌∷◌, ◌++◌, length, map, codes, decimal}
use Rattle.std.specs.Fmt.{signed_decimal}
use Rattle.bip_model.specs.declared.answer.Node.{Node}
use Rattle.bip_model.specs.declared.answer.Node.TheVariants.{Branch, Bounded, Overfull}
use Rattle.certificate.specs.declared.cert.Cert.{Cert}
use Rattle.certificate.specs.declared.cert.Entry.{Entry}
use Rattle.certificate.specs.declared.cert.SparseSet.{SparseSet}

-- lines, each ended by a line feed
abbrev pub text_of : List (List ℕ) → List ℕ
text_of [] = []
text_of (line ∷ lines) = line ++ 10 ∷ text_of lines

-- a number behind a space
abbrev pub word : ℕ → List ℕ
word n = 32 ∷ decimal n

abbrev pub words : List ℕ → List ℕ
words [] = []
words (n ∷ ns) = word n ++ words ns

unfoldable pub title_line : ℕ → List ℕ
title_line version = codes "cophy certificate" ++ word version

unfoldable pub budget_line : ℕ → List ℕ
budget_line pages = codes "budget" ++ word pages

unfoldable pub config_line : List ℕ → List ℕ
config_line numbers = codes "config" ++ words numbers

unfoldable pub cost_line : ℕ → List ℕ
cost_line cost = codes "cost" ++ word cost

unfoldable pub bound_line : ℤ → List ℕ
bound_line bound = codes "bound" ++ 32 ∷ signed_decimal bound

unfoldable pub sets_line : ℕ → List ℕ
sets_line count = codes "sets" ++ word count

-- the price of a page, and how many entries follow
unfoldable pub set_line : ℕ → ℕ → List ℕ
set_line mu count = codes "set" ++ (word mu ++ word count)

unfoldable pub entry_line : Entry → List ℕ
entry_line entry = decimal entry.statement ++ (word entry.slot ++ (word entry.candidate ++ word entry.lambda))

unfoldable pub tree_line : ℕ → List ℕ
tree_line count = codes "tree" ++ word count

unfoldable pub node_line : Node → List ℕ
node_line (Branch candidate) = codes "B" ++ word candidate
node_line (Bounded set) = codes "L" ++ word set
node_line Overfull = codes "X"

unfoldable pub end_line : List ℕ
end_line = codes "end"

abbrev pub set_lines : SparseSet → List (List ℕ)
set_lines set = set_line set.mu (length set.entries) ∷ map entry_line set.entries

abbrev pub sets_lines : List SparseSet → List (List ℕ)
sets_lines [] = []
sets_lines (set ∷ sets) = set_lines set ++ sets_lines sets

-- the lines before those of the sets
abbrev pub head_lines : ℕ → ℕ → List ℕ → ℕ → ℤ → ℕ → List (List ℕ)
head_lines version budget config cost bound count =
    title_line version ∷ budget_line budget ∷ config_line config ∷ cost_line cost ∷ bound_line bound ∷ sets_line count ∷ []

abbrev pub tree_lines : List Node → List (List ℕ)
tree_lines tree = tree_line (length tree) ∷ map node_line tree

abbrev pub cert_lines : Cert → List (List ℕ)
cert_lines cert =
    head_lines cert.version cert.budget cert.config cert.cost cert.bound (length cert.sets)
    ++ (sets_lines cert.sets ++ (tree_lines cert.tree ++ end_line ∷ []))

abbrev pub cert_text : Cert → List ℕ
cert_text cert = text_of (cert_lines cert)
