-- Paths that uses name, one after another.
use Rattle.std.proofs.Common.{◌≡◌, ◌↔◌, ◌⊎◌, inl, inr, ℕ, ◌<◌, Bool, true, false, ◌&&◌, ◌||◌, List, [], ◌∷◌, ◌++◌, ◌+◌, flat_map, take, get_or, length, nat_lt, slice_get, Some, Contains, refl, sym, ap, ◌∙◌, arith}
use Rattle.std.specs.Prelude.{◌==◌}
use Rattle.std.specs.Prelude.{OnOk}
use Rattle.std.proofs.Common.{Result, Ok, Err}
use Rattle.std.specs.List.{list_any}
use Rattle.std.specs.Option.{is_some}
use Rattle.std.specs.Cmp.{first_so, second_so}
use Rattle.std.specs.Cmp.Derive.{both_true}
use Rattle.std.proofs.lemmas.Bool.{false≢true, lt-ltb, ltb-true, eqb-true}
use Rattle.std.proofs.lemmas.List.{append-nil, append_assoc, take_more}
use Rattle.mir_ty.specs.ItemTable.{ItemTable}
use Rattle.store_model.specs.Places.Place.{Place, whole_local}
use Rattle.cfg_graph.specs.declared.graph.Body.{Body}
use Rattle.cfg_graph.specs.declared.place.Place.{Place as GraphPlace}
use Rattle.cfg_graph.specs.Places.{named}
use Rattle.cfg_graph.specs.Uses.{PlaceUse}
use Rattle.cfg_graph.specs.Moves.Gone.{are_first, counts, is_at_or_above, leaves_gone}
use Rattle.move_paths.specs.Forest.{HasLocals, Names, is_named, is_above_change, names_any}

list_any-append : {X : Type 0} (f : X → Bool) (xs ys : List X) → list_any f (xs ++ ys) ≡ (list_any f xs || list_any f ys)
list_any-append f [] ys = refl
list_any-append f (x ∷ xs) ys = by (f x) (list_any f xs) (list_any f ys) (list_any f (xs ++ ys)) (list_any-append f xs ys)
  where
    by : (a b c d : Bool) → d ≡ (b || c) → (a || d) ≡ ((a || b) || c)
    by true b c d h = refl
    by false b c d h = h

pub either : (a b : Bool) → (a || b) ≡ true → (a ≡ true) ⊎ (b ≡ true)
either true b h = inl refl
either false b h = inr h

pub left-or : (a b : Bool) → a ≡ true → (a || b) ≡ true
left-or true b h = refl
left-or false b h = absurd (false≢true h)

pub right-or : (a b : Bool) → b ≡ true → (a || b) ≡ true
right-or true b h = refl
right-or false b h = h

same_local : (q p : Place) → is_at_or_above q p ≡ true → q.local ≡ p.local
same_local q p h = eqb-true q.local p.local (first_so (q.local == p.local) (are_first q.steps p.steps) h)

module _ (items : ItemTable) (body : Body) where
  abbrev inside : Place → Bool
  inside place = nat_lt place.local (length body.locals)

  named-append : (uses more : List (PlaceUse × GraphPlace)) (q : Place) → is_named items body (uses ++ more) q ≡ true ↔ ((is_named items body uses q ≡ true) ⊎ (is_named items body more q ≡ true))
  named-append uses more q = (forth, back)
    where
      forth : is_named items body (uses ++ more) q ≡ true → (is_named items body uses q ≡ true) ⊎ (is_named items body more q ≡ true)
      forth h =
          let here = first_so (inside q) (list_any (is_above_change items body q) (uses ++ more)) h in
          elim (either (list_any (is_above_change items body q) uses) (list_any (is_above_change items body q) more)
          (sym (list_any-append (is_above_change items body q) uses more) ∙ second_so (inside q) (list_any (is_above_change items body q) (uses ++ more)) h)) [
            | inl a ↦ inl (both_true here a)
            | inr a ↦ inr (both_true here a)
          ]

      back : (is_named items body uses q ≡ true) ⊎ (is_named items body more q ≡ true) → is_named items body (uses ++ more) q ≡ true
      back (inl a) =
          both_true (first_so (inside q) (list_any (is_above_change items body q) uses) a)
          (list_any-append (is_above_change items body q) uses more ∙ left-or (list_any (is_above_change items body q) uses) (list_any (is_above_change items body q) more) (second_so (inside q) (list_any (is_above_change items body q) uses) a))
      back (inr a) =
          both_true (first_so (inside q) (list_any (is_above_change items body q) more) a)
          (list_any-append (is_above_change items body q) uses more ∙ right-or (list_any (is_above_change items body q) uses) (list_any (is_above_change items body q) more) (second_so (inside q) (list_any (is_above_change items body q) more) a))

  none-named : (q : Place) → is_named items body [] q ≡ true → ⊥
  none-named q h = false≢true (second_so (inside q) false h)

  pub names-none : (old : List Place) → Names items body old old []
  names-none old = record { kept = λ n q h. h; paths = λ q. (λ has. inl has, λ e. elim e [ inl has ↦ has | inr h ↦ absurd (none-named q h) ]) }

  pub names-more : (first old new : List Place) (uses more : List (PlaceUse × GraphPlace)) → Names items body first old uses → Names items body old new more → Names items body first new (uses ++ more)
  names-more first old new uses more one two = record {
    kept = λ n q h. two.kept n q (one.kept n q h);
    paths = λ q. (forth q, back q);
  }
    where
      forth : (q : Place) → Contains new q → Contains first q ⊎ (is_named items body (uses ++ more) q ≡ true)
      forth q has = elim ((two.paths q).0 has) [
        | inl a ↦ elim ((one.paths q).0 a) [ inl b ↦ inl b | inr b ↦ inr ((named-append uses more q).1 (inl b)) ]
        | inr a ↦ inr ((named-append uses more q).1 (inr a))
      ]

      back : (q : Place) → Contains first q ⊎ (is_named items body (uses ++ more) q ≡ true) → Contains new q
      back q (inl a) = (two.paths q).1 (inl ((one.paths q).1 (inl a)))
      back q (inr a) = elim ((named-append uses more q).0 a) [
        | inl b ↦ (two.paths q).1 (inl ((one.paths q).1 (inr b)))
        | inr b ↦ (two.paths q).1 (inr b)
      ]

  pub locals-kept : (old new : List Place) (uses : List (PlaceUse × GraphPlace)) → Names items body old new uses → HasLocals body old → HasLocals body new
  locals-kept old new uses names had n within = names.kept n (whole_local n) (had n within)

  -- a use that changes a place that is watched
  pub names-one : (old new : List Place) (made : PlaceUse × GraphPlace)
      → made.1.local < length body.locals → is_some (leaves_gone made.0) ≡ true → counts items body (named made.1) ≡ true
      → ((n : ℕ) (q : Place) → slice_get old n ≡ Some q → slice_get new n ≡ Some q)
      → ((q : Place) → Contains new q ↔ (Contains old q ⊎ (is_at_or_above q (named made.1) ≡ true)))
      → Names items body old new (made ∷ [])
  names-one old new made within changes watched kept paths = record { kept = kept; paths = λ q. (λ has. forth q ((paths q).0 has), λ e. (paths q).1 (back q e)) }
    where
      forth : (q : Place) → Contains old q ⊎ (is_at_or_above q (named made.1) ≡ true) → Contains old q ⊎ (is_named items body (made ∷ []) q ≡ true)
      forth q (inl a) = inl a
      forth q (inr a) =
          let local = same_local q (named made.1) a in
          inr (both_true (lt-ltb q.local (length body.locals) (omega (local, within, arith))) (left-or (is_above_change items body q made) false (both_true (both_true changes watched) a)))

      back : (q : Place) → Contains old q ⊎ (is_named items body (made ∷ []) q ≡ true) → Contains old q ⊎ (is_at_or_above q (named made.1) ≡ true)
      back q (inl a) = inl a
      back q (inr a) =
          let any = second_so (inside q) (is_above_change items body q made || false) a in
          elim (either (is_above_change items body q made) false any) [
            | inl here ↦ inr (second_so (is_some (leaves_gone made.0) && counts items body (named made.1)) (is_at_or_above q (named made.1)) here)
            | inr never ↦ absurd (false≢true never)
          ]

  -- a use that does not
  pub names-nothing : (old : List Place) (made : PlaceUse × GraphPlace)
      → ((q : Place) → is_named items body (made ∷ []) q ≡ true → ⊥) → Names items body old old (made ∷ [])
  names-nothing old made none = record { kept = λ n q h. h; paths = λ q. (λ has. inl has, λ e. elim e [ inl has ↦ has | inr h ↦ absurd (none q h) ]) }

  pub names-if : (old new : List Place) (made : PlaceUse × GraphPlace) → names_any items body made ≡ true
      → ((n : ℕ) (q : Place) → slice_get old n ≡ Some q → slice_get new n ≡ Some q)
      → ((q : Place) → Contains new q ↔ (Contains old q ⊎ (is_at_or_above q (named made.1) ≡ true)))
      → Names items body old new (made ∷ [])
  names-if old new made any kept paths =
      let rest = second_so (nat_lt made.1.local (length body.locals)) (is_some (leaves_gone made.0) && counts items body (named made.1)) any in
      names-one old new made
      (ltb-true made.1.local (length body.locals) (first_so (nat_lt made.1.local (length body.locals)) (is_some (leaves_gone made.0) && counts items body (named made.1)) any))
      (first_so (is_some (leaves_gone made.0)) (counts items body (named made.1)) rest)
      (second_so (is_some (leaves_gone made.0)) (counts items body (named made.1)) rest)
      kept paths

  pub names-else : (old : List Place) (made : PlaceUse × GraphPlace) → names_any items body made ≡ false → Names items body old old (made ∷ [])
  names-else old made none = names-nothing old made (λ q h.
      let any = second_so (inside q) (is_above_change items body q made || false) h in
      elim (either (is_above_change items body q made) false any) [
        | inl here ↦
            (let changes = first_so (is_some (leaves_gone made.0) && counts items body (named made.1)) (is_at_or_above q (named made.1)) here in
            let local = same_local q (named made.1) (second_so (is_some (leaves_gone made.0) && counts items body (named made.1)) (is_at_or_above q (named made.1)) here) in
            let within = ltb-true q.local (length body.locals) (first_so (inside q) (is_above_change items body q made || false) h) in
            false≢true (sym none ∙ both_true (lt-ltb made.1.local (length body.locals) (omega (local, within, arith))) changes))
        | inr never ↦ false≢true never
      ])

flat_map-push : {X Y : Type 0} (f : X → List Y) (xs : List X) (x : X) → flat_map f (xs ++ x ∷ []) ≡ flat_map f xs ++ f x
flat_map-push f [] x = append-nil (f x)
flat_map-push f (y ∷ xs) x = ap (λ z. f y ++ z) (flat_map-push f xs x) ∙ sym (append_assoc (f y) (flat_map f xs) (f x))

pub flat_map-more : {X Y : Type 0} (f : X → List Y) (xs : List X) (i : ℕ) (d : X) → i < length xs → flat_map f (take (i + 1) xs) ≡ flat_map f (take i xs) ++ f (get_or xs i d)
flat_map-more f xs i d h = ap (flat_map f) (take_more xs i d h) ∙ flat_map-push f (take i xs) (get_or xs i d)

pub on_ok : {T E P Q : Type 0} → (P → Q) → (r : Result T E) → OnOk r P → OnOk r Q
on_ok to (Ok x) h = to h
on_ok to (Err e) h = h

pub on_both : {T E P Q R : Type 0} → (P → Q → R) → (r : Result T E) → OnOk r P → OnOk r Q → OnOk r R
on_both to (Ok x) h k = to h k
on_both to (Err e) h k = h
