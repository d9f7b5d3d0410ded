-- Bindings of a pattern: the youngest is the last.
use Rattle.std.proofs.Common.{◌≡◌, Bool, true, false, ◌||◌, if◌then◌else◌, List, [], ◌∷◌, ◌++◌, reverse, Option, Some, None, refl, ap, sym, ◌∙◌}
use Rattle.std.specs.Prelude.{is_some}
use Rattle.std.specs.Str.{bytes_eq}
use Rattle.std.proofs.lemmas.List.{reverse-append}
use Rattle.src_ast.specs.Syntax.{Word}
use Rattle.typing_rules.specs.Scope.{NamedEntry, variable}

first_last : (x : NamedEntry) (xs : List NamedEntry) → reverse (x ∷ xs) ≡ reverse xs ++ x ∷ []
first_last x xs = reverse-append (x ∷ []) xs

pub last_one : (x : NamedEntry) (xs : List NamedEntry) → reverse (x ∷ xs) ≡ reverse xs ++ x ∷ []
last_one x xs = first_last x xs

found_by : (b : Bool) (x : NamedEntry) (o : Option NamedEntry) → is_some (if b then Some x else o) ≡ (b || is_some o)
found_by true x o = refl
found_by false x o = refl

or_swaps : (a b c : Bool) → (a || (b || c)) ≡ (b || (a || c))
or_swaps true true c = refl
or_swaps true false c = refl
or_swaps false true c = refl
or_swaps false false c = refl

behind : (xs : List NamedEntry) (x : NamedEntry) (name : Word) → is_some (variable (xs ++ x ∷ []) name) ≡ (bytes_eq x.name name || is_some (variable xs name))
behind [] x name = found_by (bytes_eq x.name name) x None
behind (y ∷ ys) x name =
    found_by (bytes_eq y.name name) y (variable (ys ++ x ∷ []) name) ∙ ap (λ b. bytes_eq y.name name || b) (behind ys x name)
    ∙ or_swaps (bytes_eq y.name name) (bytes_eq x.name name) (is_some (variable ys name))
    ∙ ap (λ b. bytes_eq x.name name || b) (sym (found_by (bytes_eq y.name name) y (variable ys name)))

pub known_same : (xs : List NamedEntry) (name : Word) → is_some (variable (reverse xs) name) ≡ is_some (variable xs name)
known_same [] name = refl
known_same (x ∷ xs) name =
    ap (λ l. is_some (variable l name)) (first_last x xs) ∙ behind (reverse xs) x name
    ∙ ap (λ b. bytes_eq x.name name || b) (known_same xs name) ∙ sym (found_by (bytes_eq x.name name) x (variable xs name))
