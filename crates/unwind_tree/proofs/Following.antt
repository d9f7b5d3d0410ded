-- The tree that follows the scopes of a run.
use Rattle.std.proofs.Common.{◌≡◌, ◌∙◌, ◌+◌, ◌-◌, ◌≤◌, ◌==◌, ◌⊎◌, inl, inr, ℕ, zero, suc, Bool, true, false, nat_lt, List, [], ◌∷◌, ◌++◌, map, take, drop, length, if◌then◌else◌, refl, sym, ap, subst, append_assoc, arith}
use Rattle.std.proofs.lemmas.Bool.Decides.{nat_tests, eqb_tells}
use Rattle.std.proofs.lemmas.List.{map-append}
use Rattle.cfg_graph.specs.declared.place.Place.{Place}
use Rattle.src_meaning.specs.Scopes.{Entry, Scope, Scopes, all_entries, without_key, without_pending}
use Rattle.unwind_tree.specs.Laws.{entries_of, placed, changed_in_run, AreWithoutKey, FollowsScope, Follows, none_open, one_more, FollowsScopes}
use Rattle.unwind_tree.specs.Trees.{OpenScope, changed_at, pending_only, dropped, awaiting, left_by_exit, left_by_panic}
use Rattle.unwind_tree.specs.declared.scheduled.Scheduled.{Scheduled}
use Rattle.unwind_tree.specs.declared.scope.Pending.{Pending}

append_none : {A : Type 0} (xs : List A) → xs ++ [] ≡ xs
append_none [] = refl
append_none (x ∷ xs) = ap (λ rest. x ∷ rest) (append_none xs)

dropped-push : (es : List Scheduled) (e : Scheduled) → dropped (es ++ e ∷ []) ≡ e.place ∷ dropped es
dropped-push [] e = refl
dropped-push (x ∷ es) e = ap (λ (l : List Place). l ++ x.place ∷ []) (dropped-push es e)

awaiting-push : (ps : List Pending) (p : Pending) → awaiting (ps ++ p ∷ []) ≡ awaiting ps ++ p.scheduled ∷ []
awaiting-push [] p = refl
awaiting-push (x ∷ ps) p = ap (λ rest. x.scheduled ∷ rest) (awaiting-push ps p)

exit-push : (tree : List OpenScope) (o : OpenScope) → left_by_exit (tree ++ o ∷ []) ≡ dropped o.entries ++ left_by_exit tree
exit-push [] o = sym (append_none (dropped o.entries))
exit-push (x ∷ tree) o =
    ap (λ (l : List Place). l ++ dropped x.entries) (exit-push tree o) ∙ append_assoc (dropped o.entries) (left_by_exit tree) (dropped x.entries)

panic-push : (tree : List OpenScope) (o : OpenScope) → left_by_panic (tree ++ o ∷ []) ≡ (dropped (awaiting o.pending) ++ dropped o.entries) ++ left_by_panic tree
panic-push [] o = sym (append_none (dropped (awaiting o.pending) ++ dropped o.entries))
panic-push (x ∷ tree) o =
    ap (λ (l : List Place). l ++ dropped (awaiting x.pending) ++ dropped x.entries) (panic-push tree o)
    ∙ ap (λ (l : List Place). l ++ dropped x.entries)
    (append_assoc (dropped (awaiting o.pending) ++ dropped o.entries) (left_by_panic tree) (dropped (awaiting x.pending)))
    ∙ append_assoc (dropped (awaiting o.pending) ++ dropped o.entries) (left_by_panic tree ++ dropped (awaiting x.pending)) (dropped x.entries)

drop-push : {A : Type 0} (n : ℕ) (xs : List A) (x : A) → n ≤ length xs → drop n (xs ++ x ∷ []) ≡ drop n xs ++ x ∷ []
drop-push zero xs x h = refl
drop-push (suc n) [] x h = absurd (let never : ⊥ = omega arith in never)
drop-push (suc n) (y ∷ xs) x h = drop-push n xs x (omega arith)

drop-past : {A : Type 0} (n : ℕ) (xs : List A) → length xs ≤ n → drop n xs ≡ []
drop-past zero [] h = refl
drop-past zero (y ∷ xs) h = absurd (let never : ⊥ = omega arith in never)
drop-past (suc n) [] h = refl
drop-past (suc n) (y ∷ xs) h = drop-past n xs (omega arith)

length-push : {A : Type 0} (xs : List A) (x : A) → length (xs ++ x ∷ []) ≡ length xs + 1
length-push [] x = refl
length-push (y ∷ xs) x = let rest = length-push xs x in omega arith

abbrev no_open : List OpenScope
no_open = []

abbrev no_scope : Scopes
no_scope = []

module _ (place_of : ℕ → Place) where
  same_length : (tree : List OpenScope) (S : Scopes) → Follows place_of tree S → length tree ≡ length S
  same_length _ _ none_open = refl
  same_length _ _ (one_more outer S o s f h) =
      let rest = same_length outer S f in
      let more = length-push outer o in
      omega arith

  pub at_panic : (tree : List OpenScope) (S : Scopes) → Follows place_of tree S → left_by_panic tree ≡ placed place_of (all_entries S)
  at_panic _ _ none_open = refl
  at_panic _ _ (one_more outer S o s f h) =
      panic-push outer o
      ∙ ap (λ (l : List Place). (l ++ dropped o.entries) ++ left_by_panic outer) h.pending
      ∙ ap (λ (l : List Place). (placed place_of s.pending ++ l) ++ left_by_panic outer) h.entries
      ∙ ap (λ (l : List Place). (placed place_of s.pending ++ placed place_of s.entries) ++ l) (at_panic outer S f)
      ∙ ap (λ (l : List Place). l ++ placed place_of (all_entries S)) (sym (map-append (λ (e : Entry). place_of e.key) s.pending s.entries))
      ∙ sym (map-append (λ (e : Entry). place_of e.key) (s.pending ++ s.entries) (all_entries S))

  pub at_exit : (tree : List OpenScope) (S : Scopes) (depth : ℕ) → Follows place_of tree S →
      left_by_exit (drop depth tree) ≡ placed place_of (entries_of (take (length S - depth) S))
  at_exit _ _ depth none_open =
      let past : length no_open ≤ depth = omega arith in
      let none : 0 ≡ length no_scope - depth = omega arith in
      ap left_by_exit (drop-past depth no_open past) ∙ ap (λ n. placed place_of (entries_of (take n no_scope))) none
  at_exit _ _ depth (one_more outer S o s f h) = by (nat_lt (length outer) depth) refl (at_exit outer S depth f)
    where
      by : (b : Bool) → nat_lt (length outer) depth ≡ b →
          left_by_exit (drop depth outer) ≡ placed place_of (entries_of (take (length S - depth) S)) →
          left_by_exit (drop depth (outer ++ o ∷ [])) ≡ placed place_of (entries_of (take (length (s ∷ S) - depth) (s ∷ S)))
      by true e rest =
          let lengths = same_length outer S f in
          let more = length-push outer o in
          let past : length (outer ++ o ∷ []) ≤ depth = grind (arith, nat_tests) in
          let none : 0 ≡ length (s ∷ S) - depth = grind (arith, nat_tests) in
          ap left_by_exit (drop-past depth (outer ++ o ∷ []) past) ∙ ap (λ n. placed place_of (entries_of (take n (s ∷ S)))) none
      by false e rest =
          let lengths = same_length outer S f in
          let within : depth ≤ length outer = grind (arith, nat_tests) in
          let one : suc (length S - depth) ≡ length (s ∷ S) - depth = grind (arith, nat_tests) in
          ap left_by_exit (drop-push depth outer o within)
          ∙ exit-push (drop depth outer) o
          ∙ ap (λ (l : List Place). l ++ left_by_exit (drop depth outer)) h.entries
          ∙ ap (λ (l : List Place). placed place_of s.entries ++ l) rest
          ∙ sym (map-append (λ (e : Entry). place_of e.key) s.entries (entries_of (take (length S - depth) S)))
          ∙ ap (λ n. placed place_of (entries_of (take n (s ∷ S)))) one

-- ---- one scope changes
changed-last : (tree : List OpenScope) (o : OpenScope) (n : ℕ) (change : OpenScope → OpenScope) → n ≡ length tree → changed_at n change (tree ++ o ∷ []) ≡ tree ++ change o ∷ []
changed-last [] o zero change e = refl
changed-last [] o (suc n) change e = absurd (let never : ⊥ = omega (e, arith) in never)
changed-last (x ∷ tree) o zero change e = absurd (let never : ⊥ = omega (e, arith) in never)
changed-last (x ∷ tree) o (suc n) change e = ap (λ rest. x ∷ rest) (changed-last tree o n change (omega (e, arith)))

changed-inner : (tree : List OpenScope) (o : OpenScope) (n : ℕ) (change : OpenScope → OpenScope) → (n ≡ length tree → ⊥) → changed_at n change (tree ++ o ∷ []) ≡ changed_at n change tree ++ o ∷ []
changed-inner [] o zero change e = absurd (e refl)
changed-inner [] o (suc n) change e = refl
changed-inner (x ∷ tree) o zero change e = refl
changed-inner (x ∷ tree) o (suc n) change e = ap (λ rest. x ∷ rest) (changed-inner tree o n change (λ d. e (ap suc d)))

take-push : {A : Type 0} (xs : List A) (x : A) (n : ℕ) → n ≡ length xs → take n (xs ++ x ∷ []) ≡ xs
take-push [] x zero e = refl
take-push [] x (suc n) e = absurd (let never : ⊥ = omega (e, arith) in never)
take-push (y ∷ xs) x zero e = absurd (let never : ⊥ = omega (e, arith) in never)
take-push (y ∷ xs) x (suc n) e = ap (λ rest. y ∷ rest) (take-push xs x n (omega (e, arith)))

module _ (place_of : ℕ → Place) where
  -- what is around the innermost scope
  around_last : (tree : List OpenScope) (S T : Scopes) (scope : Scope) → Follows place_of tree S → S ≡ scope ∷ T → Follows place_of (take (length tree - 1) tree) T
  around_last _ _ T scope none_open e = absurd (let never : no_scope ≡ scope ∷ T = e in cc)
  around_last _ _ T scope (one_more outer S o s f h) e =
      let more = length-push outer o in
      let number : length (outer ++ o ∷ []) - 1 ≡ length outer = omega (more, arith) in
      subst (λ (rest : List OpenScope). Follows place_of rest T) (sym (take-push outer o (length (outer ++ o ∷ []) - 1) number))
      (subst (λ (rest : Scopes). Follows place_of outer rest) (ap (λ (l : Scopes). drop 1 l) e) f)

  changed : (tree : List OpenScope) (S : Scopes) (number : ℕ) (in_tree : OpenScope → OpenScope) (in_run : Scope → Scope) → Follows place_of tree S →
      ((held : OpenScope) (scope : Scope) → FollowsScope place_of held scope → FollowsScope place_of (in_tree held) (in_run scope)) → Follows place_of (changed_at number in_tree tree) (changed_in_run number in_run S)
  changed _ _ number in_tree in_run none_open keeps = none_open
  changed _ _ number in_tree in_run (one_more outer S o s f h) keeps = elim (eqb_tells number (length S)) [
    | inl same ↦
        subst (λ (b : Bool). Follows place_of (changed_at number in_tree (outer ++ o ∷ [])) (if b then in_run s ∷ S else s ∷ changed_in_run number in_run S)) (sym same.0)
        (subst (λ (l : List OpenScope). Follows place_of l (in_run s ∷ S)) (sym (changed-last outer o number in_tree (same.1 ∙ sym (same_length place_of outer S f))))
        (one_more outer S (in_tree o) (in_run s) f (keeps o s h)))
    | inr other ↦
        subst (λ (b : Bool). Follows place_of (changed_at number in_tree (outer ++ o ∷ [])) (if b then in_run s ∷ S else s ∷ changed_in_run number in_run S)) (sym other.0)
        (subst (λ (l : List OpenScope). Follows place_of l (s ∷ changed_in_run number in_run S)) (sym (changed-inner outer o number in_tree (λ d. other.1 (d ∙ same_length place_of outer S f))))
        (one_more (changed_at number in_tree outer) (changed_in_run number in_run S) o s (changed outer S number in_tree in_run f keeps) h))
  ]

-- ---- a destination is complete
dropped-middle : (xs : List Scheduled) (x : Scheduled) (ys : List Scheduled) → dropped (xs ++ x ∷ ys) ≡ dropped ys ++ x.place ∷ dropped xs
dropped-middle [] x ys = refl
dropped-middle (z ∷ xs) x ys =
    ap (λ (l : List Place). l ++ z.place ∷ []) (dropped-middle xs x ys) ∙ append_assoc (dropped ys) (x.place ∷ dropped xs) (z.place ∷ [])

dropped-append : (xs ys : List Scheduled) → dropped (xs ++ ys) ≡ dropped ys ++ dropped xs
dropped-append [] ys = sym (append_none (dropped ys))
dropped-append (z ∷ xs) ys =
    ap (λ (l : List Place). l ++ z.place ∷ []) (dropped-append xs ys) ∙ append_assoc (dropped ys) (dropped xs) (z.place ∷ [])

dropped-length : (xs : List Scheduled) → length (dropped xs) ≡ length xs
dropped-length [] = refl
dropped-length (x ∷ xs) =
    let rest = dropped-length xs in
    let more = length-push (dropped xs) x.place in
    omega (rest, more, arith)

mapped-length : {A B : Type 0} (f : A → B) (xs : List A) → length (map f xs) ≡ length xs
mapped-length f [] = refl
mapped-length f (x ∷ xs) = ap suc (mapped-length f xs)

-- two lists that are one, each split at the same place
record SameSplit {A : Type 0} (xs us : List A) (x u : A) (ys vs : List A) : Type 0 where
  front : xs ≡ us
  middle : x ≡ u
  rest : ys ≡ vs

abbrev first_or : {A : Type 0} → A → List A → A
first_or d [] = d
first_or d (x ∷ xs) = x

abbrev rest_of : {A : Type 0} → List A → List A
rest_of [] = []
rest_of (x ∷ xs) = xs

same_split : {A : Type 0} (xs us : List A) (x u : A) (ys vs : List A) → length xs ≡ length us → xs ++ x ∷ ys ≡ us ++ u ∷ vs → SameSplit xs us x u ys vs
same_split [] [] x u ys vs e h = record { front = refl; middle = ap (first_or x) h; rest = ap rest_of h }
same_split [] (w ∷ us) x u ys vs e h = absurd (let never : ⊥ = omega (e, arith) in never)
same_split (z ∷ xs) [] x u ys vs e h = absurd (let never : ⊥ = omega (e, arith) in never)
same_split (z ∷ xs) (w ∷ us) x u ys vs e h =
    let it = same_split xs us x u ys vs (omega (e, arith)) (ap rest_of h) in
    record { front = λ i. ap (first_or z) h i ∷ it.front i; middle = it.middle; rest = it.rest }

without-append : (key : ℕ) (xs ys : List Entry) → without_key key (xs ++ ys) ≡ without_key key xs ++ without_key key ys
without-append key [] ys = refl
without-append key (x ∷ xs) ys = by (key == x.key) (without-append key xs ys)
  where
    by : (b : Bool) → without_key key (xs ++ ys) ≡ without_key key xs ++ without_key key ys →
        (if b then without_key key (xs ++ ys) else x ∷ without_key key (xs ++ ys)) ≡ (if b then without_key key xs else x ∷ without_key key xs) ++ without_key key ys
    by true h = h
    by false h = ap (λ rest. x ∷ rest) h

equal_itself : (n : ℕ) → (n == n) ≡ true
equal_itself n = elim (eqb_tells n n) [ inl same ↦ same.0 | inr other ↦ absurd (other.1 refl) ]

without_it : (younger older : List Entry) (e : Entry) → AreWithoutKey e.key younger → AreWithoutKey e.key older → without_key e.key (younger ++ e ∷ older) ≡ younger ++ older
without_it younger older e h k =
    without-append e.key younger (e ∷ older)
    ∙ ap (λ (b : Bool). without_key e.key younger ++ (if b then without_key e.key older else e ∷ without_key e.key older)) (equal_itself e.key)
    ∙ (λ i. h i ++ k i)

completed : (place_of : ℕ → Place) (held : OpenScope) (scope : Scope) (before behind : List Pending) (destination : Pending) (younger older : List Entry) (e : Entry) → FollowsScope place_of held scope →
    held.pending ≡ before ++ destination ∷ behind → scope.pending ≡ younger ++ e ∷ older → length younger ≡ length behind → AreWithoutKey e.key younger → AreWithoutKey e.key older →
    FollowsScope place_of (pending_only (before ++ behind) held) (without_pending e scope) × (destination.scheduled.place ≡ place_of e.key)
completed place_of held scope before behind destination younger older e f in_tree in_run places none_younger none_older =
    let of = λ (e : Entry). place_of e.key in
    let left : dropped (awaiting held.pending) ≡ dropped (awaiting behind) ++ destination.scheduled.place ∷ dropped (awaiting before) =
    ap (λ (l : List Pending). dropped (awaiting l)) in_tree ∙ ap dropped (map-append (λ (p : Pending). p.scheduled) before (destination ∷ behind))
    ∙ dropped-middle (awaiting before) destination.scheduled (awaiting behind) in
    let right : placed place_of scope.pending ≡ placed place_of younger ++ place_of e.key ∷ placed place_of older =
    ap (placed place_of) in_run ∙ map-append of younger (e ∷ older) in
    let same_places : length (dropped (awaiting behind)) ≡ length (placed place_of younger) =
    dropped-length (awaiting behind) ∙ mapped-length (λ (p : Pending). p.scheduled) behind ∙ sym places ∙ sym (mapped-length of younger) in
    let split = same_split (dropped (awaiting behind)) (placed place_of younger) destination.scheduled.place (place_of e.key) (dropped (awaiting before)) (placed place_of older) same_places (sym left ∙ f.pending ∙ right) in (
      record {
        entries = f.entries;
        pending =
            ap dropped (map-append (λ (p : Pending). p.scheduled) before behind) ∙ dropped-append (awaiting before) (awaiting behind)
            ∙ (λ i. split.front i ++ split.rest i) ∙ sym (map-append of younger older)
            ∙ ap (placed place_of) (sym (ap (without_key e.key) in_run ∙ without_it younger older e none_younger none_older));
      },
      split.middle,
    )

pub follows : FollowsScopes
follows = record {
  panic = at_panic;
  exit = at_exit;
  entry = λ place_of o s new e f is. record {
    entries = dropped-push o.entries new ∙ ap (λ p. p ∷ dropped o.entries) is ∙ ap (λ rest. place_of e.key ∷ rest) f.entries;
    pending = f.pending;
  };
  pending = λ place_of o s new e f is. record {
    entries = f.entries;
    pending = ap dropped (awaiting-push o.pending new) ∙ dropped-push (awaiting o.pending) new.scheduled
        ∙ ap (λ p. p ∷ dropped (awaiting o.pending)) is ∙ ap (λ rest. place_of e.key ∷ rest) f.pending;
  };
  enter = λ place_of tree S node for_temporaries f. one_more tree S _ _ f (record { entries = refl; pending = refl });
  leave = λ place_of tree scope S f. around_last place_of tree (scope ∷ S) S scope f refl;
  change = λ place_of tree S number in_tree in_run f keeps. changed place_of tree S number in_tree in_run f keeps;
  complete = completed;
}
