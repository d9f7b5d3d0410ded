-- Places where a number is to stay at the head of what stands there, while the `Drop` body of that value runs: it does
-- where something is stored apart from such a place or strictly below it.
use Rattle.std.proofs.Common.{◌≡◌, ◌≢◌, ◌⊎◌, inl, inr, ℕ, suc, ◌<◌, ◌≤◌, ◌==◌, Bool, true, false, List, [], ◌∷◌, ◌++◌, map, Option, Some, None, if◌then◌else◌, refl, ap, sym, ◌∙◌, subst, arith}
use Rattle.std.specs.Prelude.{option_and_then}
use Rattle.std.specs.Option.{option_map_or, option_to_list}
use Rattle.std.proofs.lemmas.Bool.{false≢true}
use Rattle.std.proofs.lemmas.Bool.Decides.{Decides-eqb}
use Rattle.std.proofs.lemmas.Option.{none-some}
use Rattle.mir_base.specs.Once.{times}
use Rattle.mir_ty.specs.declared.ty.TyId.{TyId}
use Rattle.store_model.proofs.Values.Access.{value_at-append}
use Rattle.store_model.specs.declared.address.Addr.{Addr}
use Rattle.store_model.specs.declared.address.At.{At}
use Rattle.store_model.specs.declared.address.At.TheVariants.{Part, Inside}
use Rattle.store_model.specs.Values.Datum.{Datum, Gone, Aggregate}
use Rattle.store_model.specs.Values.Access.{AreApart, part_at, with_part, value_at, replaced}
use Rattle.store_model.specs.Values.Wholeness.{serials_of_all}
use Rattle.store_model.specs.Concrete.Location.{Setting, Located, located_at, stored_at, root_of}
use Rattle.store_model.specs.Concrete.State.{State}
use Rattle.soundness_values.specs.Frames.{Apart, other_depth, other_local, other_part, Alike}
use Rattle.soundness_values.proofs.Accounts.{times_one}
use Rattle.soundness_values.proofs.Apart.{located_apart}
use Rattle.soundness_values.proofs.Behind.{head_serial}
use Rattle.soundness_values.proofs.Counts.{times_append, in_value, value_changed, held}
use Rattle.soundness_values.proofs.Facts.{Each, each_more}
use Rattle.soundness_values.proofs.Frames.{stored_along}
use Rattle.soundness_values.proofs.NumbersHeld.{located_held}
use Rattle.soundness_values.proofs.Standings.{alike_located, stored_located, value_there}

-- ---- two addresses are apart, or one is at or below the other

abbrev pub Below : Addr → Addr → Type 0
Below a b = (rest : List At) × (b ≡ record a { path = a.path ++ rest })

pub data Compared (a b : Addr) : Type 0 where
  are_apart : Apart a b → Compared a b
  second_below : Below a b → Compared a b
  first_below : Below b a → Compared a b

data Paths (p q : List At) : Type 0 where
  paths_apart : AreApart p q → Paths p q
  second_longer : (rest : List At) → q ≡ p ++ rest → Paths p q
  first_longer : (rest : List At) → p ≡ q ++ rest → Paths p q

abbrev is_inside : At → Bool
is_inside (Part k) = false
is_inside Inside = true

abbrev number_in : At → ℕ
number_in (Part k) = k
number_in Inside = 0

same_at : (i j : At) → (i ≡ j) ⊎ (i ≢ j)
same_at Inside Inside = inl refl
same_at Inside (Part m) = inr (λ same. false≢true (sym (ap is_inside same)))
same_at (Part n) Inside = inr (λ same. false≢true (ap is_inside same))
same_at (Part n) (Part m) = by (n == m) refl
  where
    by : (b : Bool) → (n == m) ≡ b → (Part n ≡ Part m) ⊎ (Part n ≢ Part m)
    by true e = inl (ap Part ((Decides-eqb n m).0 e))
    by false e = inr (λ same. false≢true (sym e ∙ (Decides-eqb n m).1 (ap number_in same)))

head_apart : (i j : At) (p q : List At) → i ≢ j → AreApart (i ∷ p) (j ∷ q)
head_apart i j p q h = record {
  above = [];
  one_step = i;
  one_below = p;
  other_step = j;
  other_below = q;
  one_is = refl;
  other_is = refl;
  differ = h;
}

below_apart : (i : At) (p q : List At) → AreApart p q → AreApart (i ∷ p) (i ∷ q)
below_apart i p q a = record {
  above = i ∷ a.above;
  one_step = a.one_step;
  one_below = a.one_below;
  other_step = a.other_step;
  other_below = a.other_below;
  one_is = ap (λ l. i ∷ l) a.one_is;
  other_is = ap (λ l. i ∷ l) a.other_is;
  differ = a.differ;
}

compare_paths : (p q : List At) → Paths p q
compare_paths [] q = second_longer q refl
compare_paths (i ∷ p) [] = first_longer (i ∷ p) refl
compare_paths (i ∷ p) (j ∷ q) = by (same_at i j) (compare_paths p q)
  where
    below : Paths p q → Paths (i ∷ p) (i ∷ q)
    below (paths_apart a) = paths_apart (below_apart i p q a)
    below (second_longer rest e) = second_longer rest (ap (λ l. i ∷ l) e)
    below (first_longer rest e) = first_longer rest (ap (λ l. i ∷ l) e)

    by : (i ≡ j) ⊎ (i ≢ j) → Paths p q → Paths (i ∷ p) (j ∷ q)
    by (inl same) later = subst (λ k. Paths (i ∷ p) (k ∷ q)) same (below later)
    by (inr differ) later = paths_apart (head_apart i j p q differ)

pub compare : (a b : Addr) → Compared a b
compare a b = by (a.depth == b.depth) refl (a.key.0 == b.key.0) refl
  where
    same_root : (one other : Addr) (rest : List At) → one.depth ≡ other.depth → one.key.0 ≡ other.key.0 →
        other.path ≡ one.path ++ rest → other ≡ record one { path = one.path ++ rest }
    same_root one other rest e k r =
        ap (λ d. record { depth = d; key = other.key; path = other.path }) (sym e)
        ∙ ap (λ n. record { depth = one.depth; key = (record { 0 = n }); path = other.path }) (sym k)
        ∙ ap (λ p. record { depth = one.depth; key = one.key; path = p }) r

    by_path : a.depth ≡ b.depth → a.key.0 ≡ b.key.0 → Paths a.path b.path → Compared a b
    by_path e k (paths_apart h) = are_apart (other_part a b h)
    by_path e k (second_longer rest r) = second_below (rest, same_root a b rest e k r)
    by_path e k (first_longer rest r) = first_below (rest, same_root b a rest (sym e) (sym k) r)

    by : (t : Bool) → (a.depth == b.depth) ≡ t → (u : Bool) → (a.key.0 == b.key.0) ≡ u → Compared a b
    by true e true k =
        by_path ((Decides-eqb a.depth b.depth).0 e) ((Decides-eqb a.key.0 b.key.0).0 k) (compare_paths a.path b.path)
    by true e false k = are_apart (other_local a b (λ same. false≢true (sym k ∙ (Decides-eqb a.key.0 b.key.0).1 same)))
    by false e u k = are_apart (other_depth a b (λ same. false≢true (sym e ∙ (Decides-eqb a.depth b.depth).1 same)))

-- ---- what is stored leaves the head of a place

-- apart from it, or strictly below it
pub data Spares (a b : Addr) : Type 0 where
  spares_apart : Apart a b → Spares a b
  spares_below : (step : At) (rest : List At) → b ≡ record a { path = a.path ++ step ∷ rest } → Spares a b

head_replaced : (step : At) (rest : List At) (new root : Datum) (k : ℕ) → head_serial root ≡ Some k →
    head_serial (replaced (step ∷ rest) new root) ≡ Some k
head_replaced Inside rest new (Aggregate variant serial parts) k e = e
head_replaced (Part n) rest new (Aggregate variant serial parts) k e = by (part_at n parts)
  where
    by : (o : Option Datum) →
        head_serial (option_map_or (λ x. with_part (Part n) (replaced rest new x) (Aggregate variant serial parts)) o
        (Aggregate variant serial parts)) ≡ Some k
    by None = e
    by (Some x) = e
head_replaced step rest new other k e = absurd (none-some k e)

-- a number at the head of a value is counted in it
pub head_counted : (d : Datum) (k : ℕ) → head_serial d ≡ Some k → 1 ≤ in_value k d
head_counted (Aggregate variant serial parts) k e =
    let all = times_append k (option_to_list serial) (serials_of_all parts) in
    let own : times k (option_to_list serial) ≡ 1 = ap (λ o. times k (option_to_list o)) e ∙ times_one k in
    let is : in_value k (Aggregate variant serial parts) ≡ times k (option_to_list serial ++ serials_of_all parts) =
    refl in
    omega arith
head_counted other k e = absurd (none-some k e)

module _ (setting : Setting) where
  -- a number stands at the head of what stands there
  pub record HeadIs (w : State) (a : Addr) (k : ℕ) : Type 0 where
    pub standing : Located
    pub stands : located_at setting w a ≡ Some standing
    pub head : head_serial standing.value ≡ Some k

  pub head_kept : (w : State) (a b : Addr) (k : ℕ) (d : Datum) → HeadIs w a k → Spares a b →
      HeadIs (stored_at b d w) a k
  head_kept w a b k d h (spares_apart apart) = record {
    standing = h.standing;
    stands = located_apart setting w a b d apart ∙ h.stands;
    head = h.head;
  }
  head_kept w a b k d h (spares_below step rest e) = record {
    standing = record (h.standing) { value = replaced (step ∷ rest) d h.standing.value };
    stands = ap (λ (c : Addr). located_at setting (stored_at c d w) a) e
        ∙ ap (λ (x : State). located_at setting x a) (stored_along setting w a h.standing (step ∷ rest) d h.stands)
        ∙ stored_located setting w a h.standing (replaced (step ∷ rest) d h.standing.value) h.stands;
    head = head_replaced step rest d h.standing.value k h.head;
  }

  pub head_alike : (w v : State) (a : Addr) (k : ℕ) → Alike v.activations w.activations → HeadIs w a k → HeadIs v a k
  head_alike w v a k j h = record {
    standing = h.standing;
    stands = alike_located setting v w j a ∙ h.stands;
    head = h.head;
  }

  -- a number at the head of a place is counted in each value that holds the place
  pub head_within : (w : State) (a b : Addr) (k : ℕ) (s : Located) → HeadIs w a k → Below b a →
      located_at setting w b ≡ Some s → 1 ≤ in_value k s.value
  head_within w a b k s h below e =
      let at_a : value_at a.path (root_of a w) ≡ Some h.standing.value = value_there setting w a h.standing h.stands in
      let at_b : value_at b.path (root_of b w) ≡ Some s.value = value_there setting w b s e in
      let inside : value_at below.0 s.value ≡ Some h.standing.value =
      sym (value_at-append b.path below.0 (root_of b w) ∙ ap (option_and_then (value_at below.0)) at_b)
      ∙ subst (λ (c : Addr). value_at c.path (root_of c w) ≡ Some h.standing.value) below.1 at_a in
      let change = value_changed k below.0 Gone s.value h.standing.value inside in
      let own = head_counted h.standing.value k h.head in
      let none : in_value k Gone ≡ 0 = refl in
      omega arith

  -- and so it is held
  pub head_held : (size : ℕ → ℕ) (sized : (body key : ℕ) (id : TyId) → setting.local_ty body key ≡ Some id →
      key < size body) (w : State) (a : Addr) (k : ℕ) → HeadIs w a k → 1 ≤ held size k w.activations
  head_held size sized w a k h =
      let all = located_held size k setting sized w a h.standing h.stands in
      let own = head_counted h.standing.value k h.head in
      omega arith

-- ---- some such places, each with its number

abbrev pub numbers_of : List (Addr × ℕ) → List ℕ
numbers_of guards = map (λ (g : Addr × ℕ). g.1) guards

abbrev pub HeadsStand : Setting → List (Addr × ℕ) → State → Type 0
HeadsStand setting guards w = Each (λ (g : Addr × ℕ). HeadIs setting w g.0 g.1) guards

pub heads_kept : (setting : Setting) (guards : List (Addr × ℕ)) (w : State) (b : Addr) (d : Datum) →
    Each (λ (g : Addr × ℕ). Spares g.0 b) guards → HeadsStand setting guards w →
    HeadsStand setting guards (stored_at b d w)
heads_kept setting [] w b d s h = tt
heads_kept setting (g ∷ guards) w b d s h =
    (head_kept setting w g.0 b g.1 d h.0 s.0, heads_kept setting guards w b d s.1 h.1)

pub heads_alike : (setting : Setting) (guards : List (Addr × ℕ)) (w v : State) → Alike v.activations w.activations →
    HeadsStand setting guards w → HeadsStand setting guards v
heads_alike setting guards w v j h = each_more (λ (g : Addr × ℕ). HeadIs setting w g.0 g.1)
    (λ (g : Addr × ℕ). HeadIs setting v g.0 g.1) guards (λ g k. head_alike setting w v g.0 g.1 j k) h

-- numbers that stand at such places are held
pub guarded_held : (setting : Setting) (size : ℕ → ℕ) (sized : (body key : ℕ) (id : TyId) →
    setting.local_ty body key ≡ Some id → key < size body) (guards : List (Addr × ℕ)) (w : State) (k : ℕ) →
    HeadsStand setting guards w → 1 ≤ times k (numbers_of guards) → 1 ≤ held size k w.activations
guarded_held setting size sized [] w k h l = absurd (let never : ⊥ = omega arith in never)
guarded_held setting size sized (g ∷ guards) w k h l = by (guarded_held setting size sized guards w k h.1) (k == g.1) refl
    l
  where
    by : (1 ≤ times k (numbers_of guards) → 1 ≤ held size k w.activations) → (b : Bool) → (k == g.1) ≡ b →
        1 ≤ (if b then suc (times k (numbers_of guards)) else times k (numbers_of guards)) →
        1 ≤ held size k w.activations
    by later true e m = subst (λ n. 1 ≤ held size n w.activations) (sym ((Decides-eqb k g.1).0 e))
        (head_held setting size sized w g.0 g.1 h.0)
    by later false e m = later m
