-- What is done since the reference in a local was made: where it is used, nothing of that has taken what it names, and
-- no operand of the use does.
use Rattle.std.proofs.Common.{◌≡◌, ◌⊎◌, ℕ, ◌==◌, not, Bool, true, false, List, [], ◌∷◌, ◌++◌, Option, Some, None, if◌then◌else◌, refl, subst}
use Rattle.std.specs.List.{list_all}
use Rattle.std.specs.Option.{option_map_or}
use Rattle.std.specs.Cmp.{first_so, second_so}
use Rattle.std.specs.Cmp.Derive.{both_true}
use Rattle.std.proofs.lemmas.Bool.{false≢true}
use Rattle.std.proofs.lemmas.Option.{none-some}
use Rattle.cfg_graph.specs.declared.graph.Body.{Body}
use Rattle.cfg_graph.specs.Moves.Gone.{PathAction}
use Rattle.cfg_graph.specs.NamedPlaces.{references_made, named_by, makes, uses, of_line, spares, stretches, up_to_uses, if_used, keeps_named}

pub all-first : {A : Type 0} (p : A → Bool) (xs ys : List A) → list_all p (xs ++ ys) ≡ true → list_all p xs ≡ true
all-first p [] ys h = refl
all-first p (x ∷ xs) ys h =
    both_true (first_so (p x) (list_all p (xs ++ ys)) h) (all-first p xs ys (second_so (p x) (list_all p (xs ++ ys)) h))

pub all-second : {A : Type 0} (p : A → Bool) (xs ys : List A) → list_all p (xs ++ ys) ≡ true → list_all p ys ≡ true
all-second p [] ys h = h
all-second p (x ∷ xs) ys h = all-second p xs ys (second_so (p x) (list_all p (xs ++ ys)) h)

pub all-both : {A : Type 0} (p : A → Bool) (xs ys : List A) → list_all p xs ≡ true → list_all p ys ≡ true →
    list_all p (xs ++ ys) ≡ true
all-both p [] ys h k = k
all-both p (x ∷ xs) ys h k =
    both_true (first_so (p x) (list_all p xs) h) (all-both p xs ys (second_so (p x) (list_all p xs) h) k)

module _ (body : Body) where
  -- one action more since then
  abbrev pub since_next : ℕ → Option (List PathAction) → PathAction → Option (List PathAction)
  since_next r o action = if makes body r action then Some [] else option_map_or (λ l. Some (l ++ action ∷ [])) o None

  abbrev pub since_from : ℕ → Option (List PathAction) → List PathAction → Option (List PathAction)
  since_from r o [] = o
  since_from r o (action ∷ later) = since_from r (since_next r o action) later

  -- the actions since the reference in a local was made; none where it was not
  abbrev pub since : ℕ → List PathAction → Option (List PathAction)
  since r actions = since_from r None actions

  pub since_from-append : (r : ℕ) (o : Option (List PathAction)) (first later : List PathAction) →
      since_from r o (first ++ later) ≡ since_from r (since_from r o first) later
  since_from-append r o [] later = refl
  since_from-append r o (action ∷ first) later = since_from-append r (since_next r o action) first later

  -- no action since then takes what it names
  abbrev pub IsSpared : ℕ → Option (List PathAction) → Type 0
  IsSpared r None = ⊥
  IsSpared r (Some l) = list_all (spares body r) l ≡ true

  -- it may be used: it is a parameter, or one that nothing has touched
  abbrev pub IsLive : List PathAction → ℕ → Type 0
  IsLive actions r = (named_by r (references_made body) ≡ None) ⊎ IsSpared r (since r actions)

  abbrev AllSpare : ℕ → List (List PathAction) → Type 0
  AllSpare r stretches_here = list_all (list_all (spares body r)) stretches_here ≡ true

  -- what all stretches of a path say of those that go on from a point of it
  through : (r : ℕ) (rest before : List PathAction) (o : Option (List PathAction)) →
      AllSpare r (stretches body r (before ++ rest)) →
      ((l : List PathAction) → o ≡ Some l → AllSpare r (up_to_uses body r l (before ++ rest))) →
      (l : List PathAction) → since_from r o before ≡ Some l → AllSpare r (up_to_uses body r l rest)
  through r rest [] o h k l e = k l e
  through r rest (action ∷ before) o h k l e =
      through r rest before (since_next r o action)
      (all-second (list_all (spares body r)) (if makes body r action then up_to_uses body r [] (before ++ rest) else [])
      (stretches body r (before ++ rest)) h)
      (λ m em. by (makes body r action) refl m em) l e
    where
      by : (b : Bool) → makes body r action ≡ b → (m : List PathAction) →
          (if b then Some [] else option_map_or (λ l. Some (l ++ action ∷ [])) o None) ≡ Some m →
          AllSpare r (up_to_uses body r m (before ++ rest))
      by true eb m em =
          let nil : [] ≡ m = (let x : Some [] ≡ Some m = em in cc) in
          subst (λ m. AllSpare r (up_to_uses body r m (before ++ rest))) nil
          (subst (λ b. AllSpare r (if b then up_to_uses body r [] (before ++ rest) else [])) eb
          (all-first (list_all (spares body r)) (if makes body r action then up_to_uses body r [] (before ++ rest)
          else []) (stretches body r (before ++ rest)) h))
      by false eb m em = of o refl em
        where
          of : (x : Option (List PathAction)) → o ≡ x →
              option_map_or (λ l. Some (l ++ action ∷ [])) x None ≡ Some m →
              AllSpare r (up_to_uses body r m (before ++ rest))
          of None ex em = absurd (none-some m em)
          of (Some between) ex em =
              let is : between ++ action ∷ [] ≡ m = cc in
              subst (λ m. AllSpare r (up_to_uses body r m (before ++ rest))) is
              (all-second (list_all (spares body r))
              (if_used body (uses body r action) (between ++ action ∷ of_line body action (before ++ rest)))
              (up_to_uses body r (between ++ action ∷ []) (before ++ rest))
              (subst (λ b. AllSpare r (if b then [] else if_used body (uses body r action)
              (between ++ action ∷ of_line body action (before ++ rest))
              ++ up_to_uses body r (between ++ action ∷ []) (before ++ rest))) eb (k between ex)))

  -- where it is used
  pub spared-at-use : (r : ℕ) (before line : List PathAction) (action : PathAction) →
      keeps_named body (before ++ action ∷ line) r ≡ true → uses body r action ≡ true → (l : List PathAction) →
      since r before ≡ Some l → list_all (spares body r) (l ++ action ∷ of_line body action line) ≡ true
  spared-at-use r before line action h u l e =
      let t = through r (action ∷ line) before None h (λ l n. absurd (none-some l n)) l e in
      first_so (list_all (spares body r) (l ++ action ∷ of_line body action line)) true
      (all-first (list_all (spares body r)) (if_used body true (l ++ action ∷ of_line body action line))
      (up_to_uses body r (l ++ action ∷ []) line)
      (subst (λ b. AllSpare r (if_used body b (l ++ action ∷ of_line body action line)
      ++ up_to_uses body r (l ++ action ∷ []) line)) u
      (subst (λ b. AllSpare r (if b then [] else if_used body (uses body r action)
      (l ++ action ∷ of_line body action line) ++ up_to_uses body r (l ++ action ∷ []) line)) makes_not t)))
    where
      no : (b : Bool) → not b ≡ true → b ≡ false
      no false e = refl
      no true e = absurd (false≢true e)

      makes_not : makes body r action ≡ false
      makes_not = no (makes body r action) (second_so (action.place.local == r) (not (makes body r action)) u)
