-- The keys of bindings inside their own guard, as variables come into scope and go out of it.
use Rattle.std.proofs.Common.{◌≡◌, ℕ, ◌-◌, true, false, List, [], ◌∷◌, ◌++◌, drop, length, reverse, Some, None, slice_get, refl, ap, sym, ◌∙◌, arith}
use Rattle.std.proofs.lemmas.List.{reverse-append, length-reverse}
use Rattle.mir_base.specs.declared.place_in_text.Key.{Key}
use Rattle.mir_ty.proofs.ListLemmas.{slice_get-last}
use Rattle.typeck_env.specs.Scope.{entry_of, keys_of, meaning_of}
use Rattle.typeck_env.specs.declared.variables.VariableMeaning as rust
use Rattle.typeck_env.specs.declared.variables.Variable.{Variable}
use Rattle.typeck_checker.specs.BodyScope.{HasGuards}
use Rattle.typing_rules.specs.Places.{guard_key, in_own_guard}
use Rattle.typing_rules.specs.Scope.{NamedEntry, VariableMeaning, Local, Capture, InGuard}
use Rattle.typeck_checker.specs.Scopes.{begins_in_guard, is_in_guard}

last_first : {X : Type 0} (xs : List X) (x : X) → reverse (xs ++ x ∷ []) ≡ x ∷ reverse xs
last_first xs x = reverse-append xs (x ∷ [])

first_last : {X : Type 0} (x : X) (xs : List X) → reverse (x ∷ xs) ≡ reverse xs ++ x ∷ []
first_last x xs = reverse-append (x ∷ []) xs

turned : (gs : List Key) (k : Key) → keys_of (reverse (gs ++ k ∷ [])) ≡ k.0 ∷ keys_of (reverse gs)
turned gs k = ap keys_of (last_first gs k)

pub entered_guard : (vars : List NamedEntry) (gs : List Key) (v : Variable) (k : Key) → v.meaning ≡ rust.VariableMeaning.InGuard k → HasGuards vars gs →
    HasGuards (entry_of v ∷ vars) (gs ++ k ∷ [])
entered_guard vars gs v k is has =
    ap (λ (m : rust.VariableMeaning). guard_key (meaning_of m) (in_own_guard vars)) is ∙ ap (λ ks. k.0 ∷ ks) has ∙ sym (turned gs k)

-- ---- the youngest goes out of scope

plain_key : (m : VariableMeaning) (ks : List ℕ) → is_in_guard m ≡ false → guard_key m ks ≡ ks
plain_key (Local key) ks e = refl
plain_key (Capture closure part) ks e = refl
plain_key (InGuard key) ks e = absurd (cc)

pub entered_plain : (vars : List NamedEntry) (gs : List Key) (v : Variable) → is_in_guard (meaning_of v.meaning) ≡ false → HasGuards vars gs →
    HasGuards (entry_of v ∷ vars) gs
entered_plain vars gs v is has = plain_key (meaning_of v.meaning) (in_own_guard vars) is ∙ has

pub left_plain : (vars : List NamedEntry) (gs : List Key) → begins_in_guard vars ≡ false → HasGuards vars gs → HasGuards (drop 1 vars) gs
left_plain [] gs e has = has
left_plain (x ∷ xs) gs e has = sym (plain_key x.meaning (in_own_guard xs) e) ∙ has

rest_is : (m : VariableMeaning) (ks : List ℕ) (gs : List Key) (k : Key) → is_in_guard m ≡ true → guard_key m ks ≡ keys_of (reverse (gs ++ k ∷ [])) → ks ≡ keys_of (reverse gs)
rest_is (Local key) ks gs k e has = absurd (cc)
rest_is (Capture closure part) ks gs k e has = absurd (cc)
rest_is (InGuard key) ks gs k e has =
    let both : (key ∷ ks) ≡ (k.0 ∷ keys_of (reverse gs)) = has ∙ turned gs k in
    ap (drop 1) both

pub left_guard : (vars : List NamedEntry) (gs new : List Key) (k : Key) → begins_in_guard vars ≡ true → HasGuards vars gs → gs ≡ new ++ k ∷ [] → HasGuards (drop 1 vars) new
left_guard [] gs new k e has is = absurd (cc)
left_guard (x ∷ xs) gs new k e has is =
    rest_is x.meaning (in_own_guard xs) new k e (has ∙ ap (λ (l : List Key). keys_of (reverse l)) is)

none_guard : (m : VariableMeaning) (ks : List ℕ) → is_in_guard m ≡ true → guard_key m ks ≡ [] → ⊥
none_guard (Local key) ks e has = absurd (cc)
none_guard (Capture closure part) ks e has = absurd (cc)
none_guard (InGuard key) ks e has = absurd (cc)

pub left_none : (vars : List NamedEntry) (gs new : List Key) → begins_in_guard vars ≡ true → HasGuards vars gs → gs ≡ [] → HasGuards (drop 1 vars) new
left_none [] gs new e has is = absurd (cc)
left_none (x ∷ xs) gs new e has is =
    absurd (none_guard x.meaning (in_own_guard xs) e (has ∙ ap (λ (l : List Key). keys_of (reverse l)) is))

-- ---- which is the youngest

at_end : (x : NamedEntry) (xs : List NamedEntry) → slice_get (reverse (x ∷ xs)) (length (x ∷ xs) - 1) ≡ Some x
at_end x xs =
    ap (λ l. slice_get l (length (x ∷ xs) - 1)) (first_last x xs)
    ∙ ap (λ (n : ℕ). slice_get (reverse xs ++ x ∷ []) n) (let n : length (x ∷ xs) - 1 ≡ length (reverse xs) = omega (arith, length-reverse xs) in n)
    ∙ slice_get-last (reverse xs) x

pub youngest_some : (vars : List NamedEntry) (e : NamedEntry) → Some e ≡ slice_get (reverse vars) (length vars - 1) → begins_in_guard vars ≡ is_in_guard e.meaning
youngest_some [] e h = absurd (cc)
youngest_some (x ∷ xs) e h = let same : e ≡ x = (let both = h ∙ at_end x xs in cc) in ap (λ (y : NamedEntry). is_in_guard y.meaning) (sym same)

pub youngest_none : (vars : List NamedEntry) → None ≡ slice_get (reverse vars) (length vars - 1) → begins_in_guard vars ≡ false
youngest_none [] h = refl
youngest_none (x ∷ xs) h = let both = h ∙ at_end x xs in absurd (cc)
