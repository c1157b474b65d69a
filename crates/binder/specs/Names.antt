-- Names in a text, and how they are compared.
use Rattle.std.specs.Prelude.{ℕ, ◌+◌, ◌-◌, ◌==◌, nat_le, ◌&&◌, if◌then◌else◌, List, [], length, map, slice_index, slice_range}
use Rattle.std.specs.Char.{to_ascii_lowercase}
use Rattle.sql_tokens.specs.declared.token.Span.{Span}

-- the bytes of a span; none where it doesn't lie in the text
abbrev pub span_bytes : List ℕ → Span → List ℕ
span_bytes text span = if nat_le span.from span.to && nat_le span.to (length text) then slice_range text span.from span.to else []

-- what stands between quotes, where bytes begin with this quote
unfoldable pub unquoted : ℕ → List ℕ → List ℕ
unquoted quote bytes = if nat_le 2 (length bytes) && (slice_index bytes 0 == quote) then slice_range bytes 1 (length bytes - 1) else bytes

-- the bytes of a name: those of its token, or those between the quotes of a quoted one
abbrev pub name_in : List ℕ → Span → List ℕ
name_in text span = unquoted 34 (span_bytes text span)

-- the bytes between the quotes of a text
abbrev pub text_in : List ℕ → Span → List ℕ
text_in text span = unquoted 39 (span_bytes text span)

-- a name with its letters folded, by which names are compared
abbrev pub folded : List ℕ → List ℕ
folded name = map to_ascii_lowercase name

-- the folded name of a token
abbrev pub word_in : List ℕ → Span → List ℕ
word_in text span = folded (name_in text span)

-- the place of a span's first byte, counted from 1
abbrev pub place : Span → ℕ
place span = span.from + 1
