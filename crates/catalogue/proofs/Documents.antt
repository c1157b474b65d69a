-- Whether bytes are a document.
use Rattle.std.proofs.Common.{◌≡◌, ℕ, List, None}
use Rattle.std.specs.Str.{IsUtf8}
use Rattle.std.proofs.lemmas.Bool.{false_from_ne_true}
use Rattle.std.proofs.lemmas.Str.{is_utf8-from_IsUtf8, IsUtf8-from_is_utf8}
use Rattle.toml.specs.Parse.{parse_document}
use Rattle.catalogue.specs.Catalogue.{document}

pub document-of_text : (bytes text : List ℕ) → text ≡ bytes → IsUtf8 bytes → document bytes ≡ parse_document text
unfolding document
document-of_text bytes text same is = rw (is_utf8-from_IsUtf8 bytes is, same)

pub document-of_no_text : (bytes : List ℕ) → (IsUtf8 bytes → ⊥) → document bytes ≡ None
unfolding document
document-of_no_text bytes broken = rw (false_from_ne_true _ (λ t. broken (IsUtf8-from_is_utf8 bytes t)))
