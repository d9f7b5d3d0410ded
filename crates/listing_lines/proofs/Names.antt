-- Names in UTF-8.
use Rattle.std.proofs.Common.{◌≡◌, ◌<◌, ℕ, Bool, true, false, ◌&&◌, nat_lt, if◌then◌else◌, List, length, Some, None, refl, ap, sym, ◌∙◌, lt-ltb}
use Rattle.std.specs.Str.{is_utf8, IsUtf8}
use Rattle.std.proofs.lemmas.Bool.{and_from, and_parts}
use Rattle.std.proofs.lemmas.Str.{is_utf8-from_IsUtf8, IsUtf8-from_is_utf8}
use Rattle.cfg_graph.specs.WellFormed.NameFaults.{stands_in_names}
use Rattle.listing_write.specs.Reading.Words.{FoundInText, span}
use Rattle.listing_lines.specs.LineReading.{named, name_read}

pub is_named : (w r t : List ℕ) → ◌≡◌ {A = List ℕ × List ℕ} (w, r) (span stands_in_names t) → 0 < length w → IsUtf8 w → name_read t ≡ Some (w, r)
is_named w r t is some utf =
    ap named (sym is)
    ∙ ap (λ (v : Bool). if v then Some (w, r) else None) (and_from (nat_lt 0 (length w)) (is_utf8 w) (lt-ltb 0 (length w) some) (is_utf8-from_IsUtf8 w utf))

pub not_named : (w r t : List ℕ) → ◌≡◌ {A = List ℕ × List ℕ} (w, r) (span stands_in_names t) → (IsUtf8 w → ⊥) → name_read t ≡ None
not_named w r t is no_utf = ap named (sym is) ∙ by (nat_lt 0 (length w) && is_utf8 w) refl
  where
    by : (v : Bool) → (nat_lt 0 (length w) && is_utf8 w) ≡ v → ◌≡◌ {A = FoundInText (List ℕ)} (if v then Some (w, r) else None) None
    by true e = absurd (no_utf (IsUtf8-from_is_utf8 w (and_parts (nat_lt 0 (length w)) (is_utf8 w) e).1))
    by false e = refl
