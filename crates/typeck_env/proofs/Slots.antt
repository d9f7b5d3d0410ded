-- Variables in scope by their names: entered, found and left.
use Rattle.std.proofs.Common.{◌≡◌, ℕ, zero, suc, Bool, true, false, cond, if◌then◌else◌, List, [], ◌∷◌, ◌++◌, drop, length, map, reverse, Option, Some, None, slice_get, Decides, refl, ap, sym, subst, ◌∙◌, rules, arith}
use Rattle.std.specs.HashMap as hash
use Rattle.std.specs.HashMap.{HashMap, get_by_text}
use Rattle.std.specs.Option.{option_map}
use Rattle.std.specs.Str.{bytes_eq}
use Rattle.std.specs.String.{string_eq, string_bytes}
use Rattle.std.specs.declared.string.String.{String}
use Rattle.std.proofs.lemmas.List.{map_push, reverse-append, length-reverse, reverse-reverse}
use Rattle.std.proofs.lemmas.Map.Text.{hash_map_updates_text}
use Rattle.std.proofs.lemmas.Option.{slice_get-map}
use Rattle.std.proofs.lemmas.Slice.Eq.{bytes_eq-Decides}
use Rattle.mir_ty.proofs.ListLemmas.{slice_get-append_left, slice_get-last}
use Rattle.src_ast.specs.Syntax.{Word}
use Rattle.typing_rules.specs.Scope.{variable}
use Rattle.typeck_env.specs.Scope.{entry_in, youngest_of, IsIndexed}
use Rattle.typeck_env.specs.declared.variables.Slot.{Slot}

-- one more behind the others is the first from the end
pub last_first : {X : Type 0} (xs : List X) (x : X) → reverse (xs ++ x ∷ []) ≡ x ∷ reverse xs
last_first xs x = reverse-append xs (x ∷ [])

first_last : {X : Type 0} (x : X) (xs : List X) → reverse (x ∷ xs) ≡ reverse xs ++ x ∷ []
first_last x xs = reverse-append (x ∷ []) xs

-- ---- found

at_end : (s : Slot) (older : List Slot) → slice_get (reverse (s ∷ older)) (length older) ≡ Some s
at_end s older =
    ap (λ xs. slice_get xs (length older)) (first_last s older)
    ∙ ap (λ n. slice_get (reverse older ++ s ∷ []) n) (sym (length-reverse older)) ∙ slice_get-last (reverse older) s

-- the youngest of a name stands where it is noted
found_at : (slots : List Slot) (name : Word) (i : ℕ) → youngest_of slots name ≡ Some i →
    (s : Slot) × (slice_get (reverse slots) i ≡ Some s) × (variable (map entry_in slots) name ≡ Some (entry_in s))
found_at [] name i h = absurd (cc)
found_at (s ∷ older) name i h = by (found_at older name i) (bytes_eq s.variable.name name) refl h
  where
    by : (youngest_of older name ≡ Some i → (t : Slot) × (slice_get (reverse older) i ≡ Some t) × (variable (map entry_in older) name ≡ Some (entry_in t))) → (b : Bool) → bytes_eq s.variable.name name ≡ b →
        (if b then Some (length older) else youngest_of older name) ≡ Some i →
        (t : Slot) × (slice_get (reverse (s ∷ older)) i ≡ Some t) × (variable (map entry_in (s ∷ older)) name ≡ Some (entry_in t))
    by below true is h =
        let same : length older ≡ i = cc in (
          s,
          ap (slice_get (reverse (s ∷ older))) (sym same) ∙ at_end s older,
          ap (λ b. cond b (Some (entry_in s)) (variable (map entry_in older) name)) is,
        )
    by below false is h =
        let (t, at, the_one) = below h in (
          t,
          ap (λ xs. slice_get xs i) (first_last s older) ∙ slice_get-append_left (reverse older) (s ∷ []) i t at,
          ap (λ b. cond b (Some (entry_in s)) (variable (map entry_in older) name)) is ∙ the_one,
        )

none_found : (slots : List Slot) (name : Word) → youngest_of slots name ≡ None → variable (map entry_in slots) name ≡ None
none_found [] name h = refl
none_found (s ∷ older) name h = by (none_found older name) (bytes_eq s.variable.name name) refl h
  where
    by : (youngest_of older name ≡ None → variable (map entry_in older) name ≡ None) → (b : Bool) → bytes_eq s.variable.name name ≡ b → (if b then Some (length older) else youngest_of older name) ≡ None →
        variable (map entry_in (s ∷ older)) name ≡ None
    by below true is h = absurd (cc)
    by below false is h = ap (λ b. cond b (Some (entry_in s)) (variable (map entry_in older) name)) is ∙ below h

module _ {Y S : Type 0} (slots : List Slot) (youngest : HashMap (String Y) ℕ S) (indexed : IsIndexed (reverse slots) youngest) (name : Word) where
  pub find_some : (i : ℕ) → get_by_text youngest name ≡ Some i → option_map entry_in (slice_get slots i) ≡ variable (map entry_in (reverse slots)) name
  find_some i h =
      let (s, at, the_one) = found_at (reverse slots) name i (sym (indexed.found name) ∙ h) in
      ap (λ xs. option_map entry_in (slice_get xs i)) (sym (reverse-reverse slots)) ∙ ap (option_map entry_in) at ∙ sym the_one

  pub find_none : get_by_text youngest name ≡ None → None ≡ variable (map entry_in (reverse slots)) name
  find_none h = sym (none_found (reverse slots) name (sym (indexed.found name) ∙ h))

-- ---- entered and left

module _ {Y S : Type 0} (s : Slot) (older : List Slot) (m n : HashMap (String Y) ℕ S) where
  entered_in : (bs : Word) → hash.UpdatesBy string_eq (λ k. bytes_eq bs (string_bytes k)) m n (Some (length older)) → bs ≡ s.variable.name →
      s.hides ≡ get_by_text m s.variable.name → IsIndexed older m → IsIndexed (s ∷ older) n
  entered_in bs put is hides indexed =
      record {
        found = λ name.
            hash_map_updates_text bs m n (Some (length older)) put name
            ∙ ap (λ z. cond (bytes_eq z name) (Some (length older)) (get_by_text m name)) is
            ∙ ap (λ o. cond (bytes_eq s.variable.name name) (Some (length older)) o) (indexed.found name);
        linked = (hides ∙ indexed.found s.variable.name, indexed.linked);
      }

  left_in : hash.UpdatesBy string_eq (λ k. bytes_eq s.variable.name (string_bytes k)) m n s.hides → IsIndexed (s ∷ older) m → IsIndexed older n
  left_in put indexed =
      record {
        found = λ name.
            hash_map_updates_text s.variable.name m n s.hides put name
            ∙ by name (bytes_eq s.variable.name name) (bytes_eq-Decides s.variable.name name) (indexed.found name);
        linked = indexed.linked.1;
      }
    where
      by : (name : Word) (b : Bool) → Decides b (s.variable.name ≡ name) →
          get_by_text m name ≡ (if b then Some (length older) else youngest_of older name) →
          cond b s.hides (get_by_text m name) ≡ youngest_of older name
      by name true same is = indexed.linked.0 ∙ ap (youngest_of older) (search (rules, same))
      by name false other is = is

pub entered : {Y S : Type 0} (slots : List Slot) (s : Slot) (place : ℕ) (bs : Word) (m n : HashMap (String Y) ℕ S) →
    hash.UpdatesBy string_eq (λ k. bytes_eq bs (string_bytes k)) m n (Some place) → place ≡ length slots → bs ≡ s.variable.name →
    s.hides ≡ get_by_text m s.variable.name → IsIndexed (reverse slots) m → IsIndexed (reverse (slots ++ s ∷ [])) n
entered slots s place bs m n put at is hides indexed =
    subst (λ xs. IsIndexed xs n) (sym (last_first slots s))
    (entered_in s (reverse slots) m n bs
    (subst (λ k. hash.UpdatesBy string_eq (λ k. bytes_eq bs (string_bytes k)) m n (Some k)) (at ∙ sym (length-reverse slots)) put) is hides indexed)

pub left : {Y S : Type 0} (slots rest : List Slot) (s : Slot) (bs : Word) (hides : Option ℕ) (m n : HashMap (String Y) ℕ S) →
    slots ≡ rest ++ s ∷ [] → bs ≡ s.variable.name → s.hides ≡ hides → IsIndexed (reverse slots) m →
    hash.UpdatesBy string_eq (λ k. bytes_eq bs (string_bytes k)) m n hides → IsIndexed (reverse rest) n
left slots rest s bs hides m n parts is hid indexed put =
    left_in s (reverse rest) m n
    (subst (λ h. hash.UpdatesBy string_eq (λ k. bytes_eq s.variable.name (string_bytes k)) m n h) (sym hid)
    (subst (λ z. hash.UpdatesBy string_eq (λ k. bytes_eq z (string_bytes k)) m n hides) is put))
    (subst (λ xs. IsIndexed xs m) (ap reverse parts ∙ last_first rest s) indexed)

-- the youngest variable is noted
pub is_noted : {Y S : Type 0} (slots rest : List Slot) (s : Slot) (bs : Word) (m : HashMap (String Y) ℕ S) →
    slots ≡ rest ++ s ∷ [] → bs ≡ s.variable.name → IsIndexed (reverse slots) m → get_by_text m bs ≡ Some (length (reverse rest))
is_noted slots rest s bs m parts is indexed =
    let all : IsIndexed (s ∷ reverse rest) m = subst (λ xs. IsIndexed xs m) (ap reverse parts ∙ last_first rest s) indexed in
    all.found bs ∙ same (bytes_eq s.variable.name bs) (bytes_eq-Decides s.variable.name bs)
  where
    same : (b : Bool) → Decides b (s.variable.name ≡ bs) → (if b then Some (length (reverse rest)) else youngest_of (reverse rest) bs) ≡ Some (length (reverse rest))
    same true h = refl
    same false h = absurd (grind (arith, h, is))

pub one_more_left : {X : Type 0} (k : ℕ) (xs : List X) → drop 1 (drop k xs) ≡ drop (suc k) xs
one_more_left zero xs = refl
one_more_left (suc k) [] = refl
one_more_left (suc k) (x ∷ xs) = one_more_left k xs

-- ---- by their numbers

turned : {X Y : Type 0} (f : X → Y) (xs : List X) → map f (reverse xs) ≡ reverse (map f xs)
turned f [] = refl
turned f (x ∷ xs) =
    ap (map f) (first_last x xs) ∙ map_push f (reverse xs) x ∙ ap (λ ys. ys ++ f x ∷ []) (turned f xs) ∙ sym (reverse-append (f x ∷ []) (map f xs))

-- the oldest has the number 0
pub numbered : (slots : List Slot) (n : ℕ) → option_map entry_in (slice_get slots n) ≡ slice_get (reverse (map entry_in (reverse slots))) n
numbered slots n =
    sym (slice_get-map entry_in slots n)
    ∙ ap (λ xs. slice_get xs n) (sym (ap reverse (turned entry_in slots) ∙ reverse-reverse (map entry_in slots)))
