-- Names that are looked up in a table, whose last name is the first one of the rules.
use Rattle.std.proofs.Common.{◌≡◌, ℕ, Bool, true, false, not, ◌||◌, ◌&&◌, cond, List, [], ◌∷◌, ◌++◌, map, reverse, Option, Some, None, is_some, codes, refl, ap, sym, ◌∙◌}
use Rattle.std.specs.Cmp.Lexicographic.{nat_list_eq_equiv}
use Rattle.std.specs.List.{list_any, position as position_of}
use Rattle.std.specs.Str.{bytes_eq}
use Rattle.std.proofs.lemmas.List.{reverse-append}
use Rattle.std.proofs.lemmas.List.Sorted.{IsPermutation-reverse, list_any-IsPermutation}
use Rattle.typeck_heads.proofs.Numbering.{position_any}
use Rattle.src_ast.specs.Syntax.{Word}
use Rattle.typing_rules.specs.Program.{has_all}
use Rattle.well_typed.specs.Names.{is_among}

-- a name is among others in whatever order
pub reversed_any : {X : Type 0} (p : X → Bool) (xs : List X) → list_any p xs ≡ list_any p (reverse xs)
reversed_any p xs = list_any-IsPermutation p xs (reverse xs) (IsPermutation-reverse xs)

pub found_among : (name : Word) (names : List Word) → is_some (position_of (bytes_eq name) names) ≡ is_among name names
found_among name names = position_any (bytes_eq name) names

pub not_found : (name : Word) (names : List Word) → not (is_some (position_of (bytes_eq name) names)) ≡ not (is_among name (reverse names))
not_found name names = ap not (found_among name names ∙ reversed_any (bytes_eq name) names)

pub one_more : (name : Word) (names : List Word) → reverse (names ++ name ∷ []) ≡ name ∷ reverse names
one_more name names = reverse-append names (name ∷ [])

last_true : (b : Bool) → b ≡ (b && true)
last_true true = refl
last_true false = refl

-- all of one name
pub one_asked : (name : Word) (names : List Word) → is_some (position_of (bytes_eq name) names) ≡ has_all (name ∷ []) names
one_asked name names = found_among name names ∙ last_true (is_among name names)
