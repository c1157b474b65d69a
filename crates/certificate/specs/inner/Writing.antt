-- The parts of a certificate's text, as they are written.
use Rattle.std.specs.Prelude.{ℕ, Bool, List, [], map, if◌then◌else◌}
use Rattle.bip_model.specs.declared.answer.Node.{Node}
use Rattle.bip_model.specs.declared.grant.Grant.{Grant}
use Rattle.bip_model.specs.declared.multipliers.Multipliers.{Multipliers}
use Rattle.bip_model.specs.declared.programme.Programme.{Programme}
use Rattle.bip_model.specs.Views.{Place}
use Rattle.certificate.specs.Answers.{sparse_set}
use Rattle.certificate.specs.Texts.{text_of, word, entry_line, node_line, sets_lines}
use Rattle.certificate.specs.declared.cert.Entry.{Entry}

-- the place of a grant; its slot is counted from 0
abbrev pub grant_place : ℕ → ℕ → Grant → Place
grant_place q s grant = record { statement = q; slot = s; candidate = grant.candidate }

unfoldable pub entries_text : List Entry → List ℕ
entries_text entries = text_of (map entry_line entries)

unfoldable pub nodes_text : List Node → List ℕ
nodes_text nodes = text_of (map node_line nodes)

unfoldable pub sets_text : Programme → List Multipliers → List ℕ
sets_text programme sets = text_of (sets_lines (map (sparse_set programme) sets))

-- a number that counts
abbrev pub word_if : Bool → ℕ → List ℕ
word_if counts n = if counts then word n else []
