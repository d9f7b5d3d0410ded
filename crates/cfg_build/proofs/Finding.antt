-- Locals and nodes as they are looked up.
use Rattle.std.proofs.Common.{◌≡◌, ◌∙◌, ◌<◌, ℕ, List, Some, length, map, sym, ap}
use Rattle.std.specs.Prelude.{slice_get, option_map, get_or}
use Rattle.std.proofs.lemmas.Option.{slice_get-map, slice_get-get_or}
use Rattle.src_meaning.specs.Scopes.{Entry}
use Rattle.lower_locals.specs.View.{entry_of, keys, tys}
use Rattle.lower_locals.specs.declared.local.Local.{Local}

found : (locals : List Local) (i : ℕ) (x : Local) → i < length locals → x ≡ get_or locals i x → slice_get locals i ≡ Some x
found locals i x less same = slice_get-get_or locals i x less ∙ ap (λ (l : Local). Some l) (sym same)

pub keyed : (locals : List Local) (i : ℕ) (x : Local) → i < length locals → x ≡ get_or locals i x → Some x.key.0 ≡ slice_get (keys (map entry_of locals)) i
keyed locals i x less same =
    let is : slice_get locals i ≡ Some x = found locals i x less same in
    sym (slice_get-map (λ (e : Entry). e.key) (map entry_of locals) i
    ∙ ap (option_map (λ (e : Entry). e.key)) (slice_get-map entry_of locals i ∙ ap (option_map entry_of) is))

pub typed : (locals : List Local) (i : ℕ) (x : Local) → i < length locals → x ≡ get_or locals i x → Some x.ty ≡ slice_get (tys (map entry_of locals)) i
typed locals i x less same =
    let is : slice_get locals i ≡ Some x = found locals i x less same in
    sym (slice_get-map (λ (e : Entry). e.ty) (map entry_of locals) i
    ∙ ap (option_map (λ (e : Entry). e.ty)) (slice_get-map entry_of locals i ∙ ap (option_map entry_of) is))
