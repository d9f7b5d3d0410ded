-- A place behind references is followed to its end: each reference is followed at most once, so a body's references are
-- enough.
use Rattle.std.proofs.Common.{◌≡◌, ◌⊎◌, inl, inr, ℕ, zero, suc, ◌==◌, ◌<◌, ◌≤◌, Bool, true, false, List, [], ◌∷◌, ◌++◌, map, length, Option, Some, None, if◌then◌else◌, slice_get, refl, ap, sym, ◌∙◌, subst, append_assoc, arith}
use Rattle.std.specs.Prelude.{find}
use Rattle.std.specs.Option.{option_map_or}
use Rattle.std.proofs.lemmas.Bool.{false≢true}
use Rattle.std.proofs.lemmas.Bool.Decides.{Decides-eqb}
use Rattle.std.proofs.lemmas.Option.{none-some}
use Rattle.cfg_graph.specs.NamedPlaces.{named_by, further, behind, follow}
use Rattle.store_model.specs.Places.Place.{Step, ToPart, ToField, ToContent, ToElement, Place}

-- ---- numbers in a list

-- a list without a number
abbrev without : ℕ → List ℕ → List ℕ
without k [] = []
without k (x ∷ xs) = if x == k then without k xs else x ∷ without k xs

abbrev Among : ℕ → List ℕ → Type 0
Among k [] = ⊥
Among k (x ∷ xs) = (x ≡ k) ⊎ Among k xs

without-length : (k : ℕ) (xs : List ℕ) → length (without k xs) ≤ length xs
without-length k [] = omega arith
without-length k (x ∷ xs) = by (x == k) (without-length k xs)
  where
    by : (b : Bool) → length (without k xs) ≤ length xs →
        length (if b then without k xs else x ∷ without k xs) ≤ suc (length xs)
    by true h = omega (arith, h)
    by false h = omega (arith, h)

shorter-without : (k : ℕ) (xs : List ℕ) → Among k xs → suc (length (without k xs)) ≤ length xs
shorter-without k [] h = absurd h
shorter-without k (x ∷ xs) h = by (x == k) refl (without-length k xs) h (λ a. shorter-without k xs a)
  where
    by : (b : Bool) → (x == k) ≡ b → length (without k xs) ≤ length xs → (x ≡ k) ⊎ Among k xs →
        (Among k xs → suc (length (without k xs)) ≤ length xs) →
        suc (length (if b then without k xs else x ∷ without k xs)) ≤ suc (length xs)
    by true eb l a again = omega (arith, l)
    by false eb l (inl e) again = absurd (false≢true (sym eb ∙ (Decides-eqb x k).1 e))
    by false eb l (inr a) again = let r = again a in omega (arith, r)

among-without : (k j : ℕ) (xs : List ℕ) → (j ≡ k → ⊥) → Among j xs → Among j (without k xs)
among-without k j [] d h = h
among-without k j (x ∷ xs) d h = by (x == k) refl h (λ a. among-without k j xs d a)
  where
    by : (b : Bool) → (x == k) ≡ b → (x ≡ j) ⊎ Among j xs → (Among j xs → Among j (without k xs)) →
        Among j (if b then without k xs else x ∷ without k xs)
    by true eb (inl e) again = absurd (d (sym e ∙ (Decides-eqb x k).0 eb))
    by true eb (inr a) again = again a
    by false eb (inl e) again = inl e
    by false eb (inr a) again = inr (again a)

module _ (made : List (ℕ × Place)) where
  abbrev locals : List ℕ
  locals = map (λ one. one.0) made

  named-among : (k : ℕ) (some : List (ℕ × Place)) (p : Place) → named_by k some ≡ Some p →
      Among k (map (λ (one : ℕ × Place). one.0) some)
  named-among k [] p e = none-some p e
  named-among k (one ∷ some) p e = by (one.0 == k) refl e (λ h. named-among k some p h)
    where
      by : (b : Bool) → (one.0 == k) ≡ b →
          option_map_or (λ (one : ℕ × Place). Some one.1) (if b then Some one else find (λ one. one.0 == k) some) None
          ≡ Some p →
          (named_by k some ≡ Some p → Among k (map (λ (one : ℕ × Place). one.0) some)) →
          (one.0 ≡ k) ⊎ Among k (map (λ (one : ℕ × Place). one.0) some)
      by true eb e again = inl ((Decides-eqb one.0 k).0 eb)
      by false eb e again = inr (again e)

  -- ---- from reference to reference

  -- the reference in a local is followed so many times more
  pub data GoesOn : ℕ → ℕ → Type 0 where
    stops : (k : ℕ) (p : Place) → named_by k made ≡ Some p →
        ((steps : List Step) → p.steps ≡ ToContent ∷ steps → named_by p.local made ≡ None) → GoesOn k 0
    goes : (k n : ℕ) (p : Place) (steps : List Step) → named_by k made ≡ Some p → p.steps ≡ ToContent ∷ steps →
        GoesOn p.local n → GoesOn k (suc n)

  is-named : {k n : ℕ} → GoesOn k n → (p : Place) × (named_by k made ≡ Some p)
  is-named (stops k p e h) = (p, e)
  is-named (goes k n p steps e s g) = (p, e)

  one-length : {k n m : ℕ} → GoesOn k n → GoesOn k m → n ≡ m
  one-length (stops k p e h) (stops _ q f g) = refl
  one-length (stops k p e h) (goes _ m q steps f s g) =
      let same : q ≡ p = (let x : Some q ≡ Some p = sym f ∙ e in cc) in
      absurd (none-some (is-named g).0 (sym (ap (λ (x : Place). named_by x.local made) same
      ∙ h steps (ap (λ (x : Place). x.steps) (sym same) ∙ s)) ∙ (is-named g).1))
  one-length (goes k n p steps e s g) (stops _ q f h) =
      let same : q ≡ p = (let x : Some q ≡ Some p = sym f ∙ e in cc) in
      absurd (none-some (is-named g).0 (sym (ap (λ (x : Place). named_by x.local made) (sym same)
      ∙ h steps (ap (λ (x : Place). x.steps) same ∙ s)) ∙ (is-named g).1))
  one-length (goes k n p steps e s g) (goes _ m q steps' f s' g') =
      let same : q ≡ p = (let x : Some q ≡ Some p = sym f ∙ e in cc) in
      ap suc (one-length g (subst (λ (x : Place). GoesOn x.local m) same g'))

  -- each reference that is followed is among these
  abbrev AllAmong : {k n : ℕ} → GoesOn k n → List ℕ → Type 0
  AllAmong {k} {n} (stops k' p e h) xs = Among k' xs
  AllAmong {k} {n} (goes k' n' p steps e s g) xs = Among k' xs × AllAmong g xs

  all-among : {k n : ℕ} (g : GoesOn k n) → AllAmong g locals
  all-among (stops k p e h) = named-among k made p e
  all-among (goes k n p steps e s g) = (named-among k made p e, all-among g)

  -- what is followed fewer times is another reference
  still-among : {k n m j : ℕ} (g : GoesOn k n) → n < m → GoesOn j m → (xs : List ℕ) → AllAmong g xs →
      AllAmong g (without j xs)
  still-among {m = m} {j = j} (stops k p e h) less other xs a =
      among-without j k xs (λ same. let x = one-length (stops k p e h) (subst (λ i. GoesOn i m) (sym same) other) in
      let never : ⊥ = omega (arith, less, x) in never) a
  still-among {m = m} {j = j} (goes k n p steps e s g) less other xs a = (
    among-without j k xs (λ same. let x = one-length (goes k n p steps e s g)
        (subst (λ i. GoesOn i m) (sym same) other) in
        let never : ⊥ = omega (arith, less, x) in never) a.0,
    still-among g (omega (arith, less)) other xs a.1,
  )

  few : {k n : ℕ} (g : GoesOn k n) (xs : List ℕ) → AllAmong g xs → n < length xs
  few (stops k p e h) xs a = let s = shorter-without k xs a in omega (arith, s)
  few (goes k n p steps e s g) xs a =
      let r = few g (without k xs) (still-among g (omega arith) (goes k n p steps e s g) xs a.1) in
      let l = shorter-without k xs a.0 in
      omega (arith, r, l)

  -- so a place is followed no more often than there are references
  pub followed-enough : {k n : ℕ} → GoesOn k n → n < length made
  followed-enough g = let x = few g locals (all-among g) in let l = map-length made in omega (arith, x, l)
    where
      map-length : (xs : List (ℕ × Place)) → length (map (λ (one : ℕ × Place). one.0) xs) ≡ length xs
      map-length [] = refl
      map-length (x ∷ xs) = ap suc (map-length xs)

  -- ---- from place to place

  -- a place is followed so many times to the place where it ends
  pub data Leads : Place → Place → ℕ → Type 0 where
    at_end : (p : Place) → behind made p.local p.steps ≡ None → Leads p p 0
    onward : (p q r : Place) (n : ℕ) → behind made p.local p.steps ≡ Some q → Leads q r n → Leads p r (suc n)

  pub follow-at : {p r : Place} {n : ℕ} → Leads p r n → (most : ℕ) → n ≤ most →
      slice_get (follow made most p) n ≡ Some r
  follow-at (at_end p e) zero l = refl
  follow-at (at_end p e) (suc most) l = refl
  follow-at (onward p q r n e leads) zero l = absurd (let never : ⊥ = omega (arith, l) in never)
  follow-at (onward p q r n e leads) (suc most) l =
      ap (λ o. slice_get (option_map_or (follow made most) o []) n) e ∙ follow-at leads most (omega (arith, l))

  none-behind : (o : Option Place) (steps : List Step) →
      option_map_or (λ place. Some (further steps place)) o None ≡ None → o ≡ None
  none-behind None steps e = refl
  none-behind (Some p) steps e = absurd (let x : Some (further steps p) ≡ None =
      e in none-some (further steps p) (sym x))

  some-behind : (o : Option Place) (steps : List Step) (q : Place) →
      option_map_or (λ place. Some (further steps place)) o None ≡ Some q →
      (p : Place) × (o ≡ Some p) × (q ≡ further steps p)
  some-behind None steps q e = absurd (none-some q e)
  some-behind (Some p) steps q e = (p, refl, (let x : Some (further steps p) ≡ Some q = e in cc))

  -- ---- the same from a place further on

  -- through a local in which no reference is made nothing is followed
  pub none-follows : (local : ℕ) (steps : List Step) → named_by local made ≡ None → behind made local steps ≡ None
  none-follows local [] e = refl
  none-follows local (ToPart i ∷ steps) e = refl
  none-follows local (ToField v i ∷ steps) e = refl
  none-follows local (ToElement i ∷ steps) e = refl
  none-follows local (ToContent ∷ steps) e = ap (λ o. option_map_or (λ place. Some (further steps place)) o None) e

  further-behind : (local : ℕ) (steps rest : List Step) (q : Place) → behind made local steps ≡ Some q →
      behind made local (steps ++ rest) ≡ Some (further rest q)
  further-behind local [] rest q e = absurd (none-some q e)
  further-behind local (ToPart i ∷ steps) rest q e = absurd (none-some q e)
  further-behind local (ToField v i ∷ steps) rest q e = absurd (none-some q e)
  further-behind local (ToElement i ∷ steps) rest q e = absurd (none-some q e)
  further-behind local (ToContent ∷ steps) rest q e =
      let s = some-behind (named_by local made) steps q e in
      ap (λ o. option_map_or (λ place. Some (further (steps ++ rest) place)) o None) s.1
      ∙ ap Some (ap (λ l. record s.0 { steps = l }) (sym (append_assoc s.0.steps steps rest))
      ∙ ap (further rest) (sym s.2))

  -- where a place is followed to is where it leads, if it ends there
  pub leads-of : (most : ℕ) (p r : Place) (n : ℕ) → slice_get (follow made most p) n ≡ Some r →
      behind made r.local r.steps ≡ None → Leads p r n
  leads-of zero p r zero e h = let same : p ≡ r = cc in subst (λ x. Leads x r 0) (sym same) (at_end r h)
  leads-of zero p r (suc n) e h = absurd (none-some r e)
  leads-of (suc most) p r zero e h = let same : p ≡ r = cc in subst (λ x. Leads x r 0) (sym same) (at_end r h)
  leads-of (suc most) p r (suc n) e h = by (behind made p.local p.steps) refl e (λ q e2. leads-of most q r n e2 h)
    where
      by : (o : Option Place) → behind made p.local p.steps ≡ o →
          slice_get (option_map_or (follow made most) o []) n ≡ Some r →
          ((q : Place) → slice_get (follow made most q) n ≡ Some r → Leads q r n) → Leads p r (suc n)
      by None eo e again = absurd (none-some r e)
      by (Some q) eo e again = onward p q r n eo (again q e)

  pub leads-further : {p r : Place} {n : ℕ} (rest : List Step) → named_by r.local made ≡ None → Leads p r n →
      Leads (further rest p) (further rest r) n
  leads-further rest none (at_end p' h) =
      at_end (further rest p') (none-follows p'.local (p'.steps ++ rest) none)
  leads-further rest none (onward p' q r' m e more) =
      onward (further rest p') (further rest q) (further rest r') m (further-behind p'.local p'.steps rest q e)
      (leads-further rest none more)

  -- no reference names a local of a reference
  abbrev pub NamesNone : Type 0
  NamesNone = (k : ℕ) (p : Place) → named_by k made ≡ Some p → p.steps ≡ [] → named_by p.local made ≡ None

  module _ (none : NamesNone) where
    leads-goes : (k : ℕ) (p q r : Place) (rest : List Step) (n : ℕ) → named_by k made ≡ Some p → q ≡ further rest p →
        Leads q r n → GoesOn k n
    leads-goes k p q _ rest _ e is (at_end _ h) =
        stops k p e (λ steps s. none-behind (named_by p.local made) (steps ++ rest)
        (ap (λ l. behind made p.local (l ++ rest)) (sym s)
        ∙ ap (λ (x : Place). behind made x.local x.steps) (sym is) ∙ h))
    leads-goes k p q r rest _ e is (onward _ q' _ n h more) =
        by p.steps refl (sym (ap (λ (x : Place). behind made x.local x.steps) is) ∙ h)
        (λ m em next em2. leads-goes p.local m q' r next n em em2 more)
      where
        no-step : (steps : List Step) → named_by p.local made ≡ None → behind made p.local steps ≡ Some q' → ⊥
        no-step [] none_here e = none-some q' e
        no-step (ToPart i ∷ steps) none_here e = none-some q' e
        no-step (ToField v i ∷ steps) none_here e = none-some q' e
        no-step (ToElement i ∷ steps) none_here e = none-some q' e
        no-step (ToContent ∷ steps) none_here e =
            none-some q' (sym (ap (λ o. option_map_or (λ place. Some (further steps place)) o None) none_here) ∙ e)

        by : (steps : List Step) → p.steps ≡ steps → behind made p.local (p.steps ++ rest) ≡ Some q' →
            ((m : Place) → named_by p.local made ≡ Some m → (next : List Step) → q' ≡ further next m →
            GoesOn p.local n) → GoesOn k (suc n)
        by [] s e2 again = absurd (no-step rest (none k p e s) (sym (ap (λ l. behind made p.local (l ++ rest)) s) ∙ e2))
        by (ToPart i ∷ steps) s e2 again =
            absurd (none-some q' (sym (ap (λ l. behind made p.local (l ++ rest)) s) ∙ e2))
        by (ToField v i ∷ steps) s e2 again =
            absurd (none-some q' (sym (ap (λ l. behind made p.local (l ++ rest)) s) ∙ e2))
        by (ToElement i ∷ steps) s e2 again =
            absurd (none-some q' (sym (ap (λ l. behind made p.local (l ++ rest)) s) ∙ e2))
        by (ToContent ∷ steps) s e2 again =
            let m = some-behind (named_by p.local made) (steps ++ rest) q'
            (sym (ap (λ l. behind made p.local (l ++ rest)) s) ∙ e2) in
            goes k n p steps e s (again m.0 m.1 (steps ++ rest) m.2)

    -- where the reference in a local leads in the end is among the places to which it is followed
    pub among-followed : (k : ℕ) (p r : Place) (n : ℕ) → named_by k made ≡ Some p → Leads p r n →
        slice_get (follow made (length made) p) n ≡ Some r
    among-followed k p r n e leads =
        let less = followed-enough (leads-goes k p p r [] n e (itself p) leads) in
        follow-at leads (length made) (omega (arith, less))
      where
        no-more : (steps : List Step) → steps ≡ steps ++ []
        no-more [] = refl
        no-more (x ∷ steps) = ap (λ l. x ∷ l) (no-more steps)

        itself : (p : Place) → p ≡ further [] p
        itself p = ap (λ steps. record p { steps = steps }) (no-more p.steps)
