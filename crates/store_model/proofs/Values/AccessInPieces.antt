-- A path that is walked in two pieces.
use Rattle.std.proofs.Common.{◌≡◌, ℕ, List, ◌++◌, take, drop, Bool, Some, None, MatchBool, sym, ap, ◌∙◌, subst}
use Rattle.std.specs.Option.{option_and_then}
use Rattle.std.proofs.lemmas.List.{take-append-drop}
use Rattle.store_model.specs.declared.address.At.{At}
use Rattle.store_model.specs.Values.Datum.{Datum}
use Rattle.store_model.specs.Values.Access.{value_at, replaced}
use Rattle.store_model.proofs.Values.Access.{value_at-append, value_at-below, replaced-nowhere, replaced-replaced, replaced-append}

pub split_path : (count : ℕ) (path above below : List At) → above ≡ take count path → below ≡ drop count path → path ≡ above ++ below
split_path count path above below is_above is_below =
    sym (take-append-drop count path) ∙ ap (λ p. p ++ drop count path) (sym is_above) ∙ ap (λ p. above ++ p) (sym is_below)

-- where the first piece leads to nothing, neither does the path
pub absent-in_pieces : (path above below : List At) (root : Datum) → path ≡ above ++ below → value_at above root ≡ None → value_at path root ≡ None
absent-in_pieces path above below root is_path none =
    ap (λ p. value_at p root) is_path ∙ value_at-append above below root ∙ ap (option_and_then (value_at below)) none

pub same-in_pieces : (path above below : List At) (root after put given : Datum) → path ≡ above ++ below → value_at above root ≡ None → after ≡ replaced above put root → after ≡ replaced path given root
same-in_pieces path above below root after put given is_path none h =
    h ∙ replaced-nowhere above put root none ∙ sym (replaced-nowhere path given root (absent-in_pieces path above below root is_path none))

-- what stands at the end of the path stands at the end of its second piece
pub found-in_pieces : (found : Bool) (path above below : List At) (root container left given : Datum) → path ≡ above ++ below → value_at above root ≡ Some container →
    MatchBool found (value_at below container ≡ Some left) ((value_at below container ≡ None) × (left ≡ given)) →
    MatchBool found (value_at path root ≡ Some left) ((value_at path root ≡ None) × (left ≡ given))
found-in_pieces found path above below root container left given is_path some h =
    let stands : value_at path root ≡ value_at below container = ap (λ p. value_at p root) is_path ∙ value_at-below above below root container some in
    subst (λ o. MatchBool found (o ≡ Some left) ((o ≡ None) × (left ≡ given))) (sym stands) h

-- a container that was taken out, changed and put back
pub replaced-in_pieces : (path above below : List At) (root container put changed emptied given after : Datum) → path ≡ above ++ below → value_at above root ≡ Some container →
    emptied ≡ replaced above put root → changed ≡ replaced below given container → after ≡ replaced above changed emptied → after ≡ replaced path given root
replaced-in_pieces path above below root container put changed emptied given after is_path some is_emptied is_changed h =
    h ∙ ap (replaced above changed) is_emptied ∙ replaced-replaced above put changed root ∙ ap (λ x. replaced above x root) is_changed
    ∙ sym (ap (λ p. replaced p given root) is_path ∙ replaced-append above below given root container some)
