-- Names that come into scope.
use Rattle.std.proofs.Common.{◌≡◌, ℕ, suc, ◌≤◌, Bool, true, false, ◌==◌, if◌then◌else◌, List, [], ◌∷◌, ◌++◌, Some, Contains, ◌⊎◌, inl, inr, refl, ap, sym, subst, ◌∙◌, arith}
use Rattle.std.proofs.lemmas.Bool.{eqb-true}
use Rattle.mir_ty.specs.declared.ty.TyId.{TyId}
use Rattle.mir_ty.specs.ItemTable.{ItemTable}
use Rattle.well_typed.specs.Places.{InScope, entry_with}
use Rattle.typing_rules.specs.Check.{TypingState}
use Rattle.typing_rules.specs.Promises.{IsReady, TypingSpot, Means, Stands, IsBelow, Knows, in_scope, key_of, are_bound, AreFresh, AreReadyTypes}
use Rattle.typing_rules.specs.Scope.{Env, NamedEntry, VariableMeaning, Local, Capture, InGuard, with_variables, joined, in_guard, guarded}
use Rattle.typing_rules.proofs.Sound.Fitted.{same_self}
use Rattle.typing_rules.proofs.Sound.Jumps.{other_number}
use Rattle.typing_rules.proofs.Sound.Places.{contains_cases}

pub joined_cases : (new old : List NamedEntry) (x : NamedEntry) → Contains (joined new old) x → Contains new x ⊎ Contains old x
joined_cases [] old x h = inr h
joined_cases (y ∷ ys) old x h = by (joined_cases ys (y ∷ old) x h)
  where
    first : (y ≡ x) ⊎ Contains old x → Contains (y ∷ ys) x ⊎ Contains old x
    first (inl same) = inl (0, omega arith, same)
    first (inr more) = inr more

    by : Contains ys x ⊎ Contains (y ∷ old) x → Contains (y ∷ ys) x ⊎ Contains old x
    by (inl c) = inl (suc c.0, omega (arith, c.1), c.2)
    by (inr c) = first (contains_cases y old x c)

module _ (m : ℕ) where
  fresh_bound : (n : ℕ) (xs : List NamedEntry) → AreFresh n xs m → n ≤ m
  fresh_bound n [] h = h
  fresh_bound n (x ∷ xs) h = let on = fresh_bound (suc (key_of x.meaning)) xs h.2 in omega (arith, h.1, on)

  -- each is an entry of the body, by a number from the least on
  fresh_at : (n : ℕ) (xs : List NamedEntry) (x : NamedEntry) → AreFresh n xs m → Contains xs x → (x.meaning ≡ Local (key_of
      x.meaning)) × (n ≤ key_of x.meaning) × (suc (key_of x.meaning) ≤ m)
  fresh_at n [] x h c = absurd (omega (arith, c.1))
  fresh_at n (y ∷ ys) x h c =
      by (fresh_bound (suc (key_of y.meaning)) ys h.2) (contains_cases y ys x c) (λ d. fresh_at (suc (key_of
      y.meaning)) ys
      x h.2 d)
    where
      by : suc (key_of y.meaning) ≤ m → (y ≡ x) ⊎ Contains ys x → (Contains ys x → (x.meaning ≡ Local (key_of
          x.meaning)) ×
          (suc (key_of y.meaning) ≤ key_of x.meaning) × (suc (key_of x.meaning) ≤ m)) → (x.meaning ≡ Local (key_of
          x.meaning)) × (n ≤ key_of x.meaning) × (suc (key_of x.meaning) ≤ m)
      by below (inl same) on =
          subst (λ (z : NamedEntry). (z.meaning ≡ Local (key_of z.meaning)) × (n ≤ key_of z.meaning) × (suc (key_of
          z.meaning)
          ≤ m)) same (h.0, h.1, below)
      by below (inr more) on = let is = on more in (is.0, omega (arith, h.1, is.1), is.2)

  -- an entry is found by its number
  pub entry_found : (guard : Bool) (n : ℕ) (xs : List NamedEntry) (old : List InScope) (x : NamedEntry) → AreFresh n xs m →
      Contains
      xs x → entry_with (key_of x.meaning) (are_bound guard xs ++ old) ≡ Some (in_scope (key_of x.meaning) x.ty guard)
  entry_found guard n [] old x h c = absurd (omega (arith, c.1))
  entry_found guard n (y ∷ ys) old x h c =
      by (contains_cases y ys x c) (λ d. entry_found guard (suc (key_of y.meaning)) ys old x h.2 d) (λ d. (fresh_at (suc
      (key_of y.meaning)) ys x h.2 d).1)
    where
      rest : List InScope
      rest = are_bound guard ys ++ old

      less : (a b : ℕ) → suc a ≤ b → (a == b) ≡ false
      less a b h = by_ (a == b) refl
        where
          by_ : (t : Bool) → (a == b) ≡ t → (a == b) ≡ false
          by_ true e = absurd (let same = eqb-true a b e in omega (arith, h, same))
          by_ false e = e

      by : (y ≡ x) ⊎ Contains ys x → (Contains ys x → entry_with (key_of x.meaning) rest ≡ Some (in_scope (key_of
          x.meaning) x.ty guard)) → (Contains ys x → suc (key_of y.meaning) ≤ key_of x.meaning) → entry_with (key_of
          x.meaning) (are_bound guard (y ∷ ys) ++ old) ≡ Some (in_scope (key_of x.meaning) x.ty guard)
      by (inl same) on more =
          subst (λ (z : NamedEntry). entry_with (key_of z.meaning) (are_bound guard (y ∷ ys) ++ old) ≡ Some (in_scope (key_of
          z.meaning) z.ty guard)) same
          (ap (λ b. if b then Some (in_scope (key_of y.meaning) y.ty guard) else entry_with (key_of y.meaning) rest)
          (same_self (key_of y.meaning)))
      by (inr later) on more =
          ap (λ b. if b then Some (in_scope (key_of y.meaning) y.ty guard) else entry_with (key_of x.meaning) rest)
          (less
          (key_of y.meaning) (key_of x.meaning) (more later)) ∙ on later

  -- an older entry is found as before
  pub entry_behind : (guard : Bool) (n : ℕ) (xs : List NamedEntry) (old : List InScope) (key : ℕ) → AreFresh n xs m → suc
      key ≤ n
      → entry_with key (are_bound guard xs ++ old) ≡ entry_with key old
  entry_behind guard n [] old key h below = refl
  entry_behind guard n (y ∷ ys) old key h below =
      ap (λ b. if b then Some (in_scope (key_of y.meaning) y.ty guard) else entry_with key (are_bound guard ys ++ old))
      (other_number (key_of y.meaning) key (omega (arith, below, h.1))) ∙
      entry_behind guard (suc (key_of y.meaning)) ys old key h.2 (omega (arith, below, h.1))

-- the spot behind entries
abbrev pub behind : List InScope → TypingSpot → TypingSpot
behind new p = record p { entries = new ++ p.entries }

guarded_from : (ys : List NamedEntry) (y : NamedEntry) → Contains (in_guard ys) y → (x : NamedEntry) × Contains ys x × (y.ty ≡
    x.ty) ×
    (y.meaning ≡ guarded x.meaning)
guarded_from [] y c = absurd (omega (arith, c.1))
guarded_from (z ∷ zs) y c = by (λ d. guarded_from zs y d) (contains_cases _ (in_guard zs) y c)
  where
    by : (Contains (in_guard zs) y → (x : NamedEntry) × Contains zs x × (y.ty ≡ x.ty) × (y.meaning ≡ guarded x.meaning)) →
        (record z { meaning = guarded z.meaning } ≡ y) ⊎ Contains (in_guard zs) y → (x : NamedEntry) × Contains (z ∷ zs)
        x ×
        (y.ty ≡ x.ty) × (y.meaning ≡ guarded x.meaning)
    by on (inl same) =
        (z, (0, omega arith, refl), ap (λ (u : NamedEntry). u.ty) (sym same), ap (λ (u : NamedEntry). u.meaning) (sym same))
    by on (inr more) = let x = on more in (x.0, (suc x.1.0, omega (arith, x.1.1), x.1.2), x.2, x.3)

module _ (env : Env) (s w : TypingState) (p : TypingSpot) (n m : ℕ) (xs : List NamedEntry) (k : Knows env s) (from : s.next_node ≤ n)
    (fresh
    : AreFresh n xs m) (stands : Stands env w p) where
  old_means : (guard : Bool) (ty : TyId) (means : VariableMeaning) → IsBelow s.next_node means → Means w.items p ty means →
      Means
      w.items (behind (are_bound guard xs) p) ty means
  old_means guard ty (Local key) below h =
      entry_behind m guard n xs p.entries key fresh (omega (arith, below, from)) ∙ h
  old_means guard ty (InGuard key) below h =
      entry_behind m guard n xs p.entries key fresh (omega (arith, below, from)) ∙ h
  old_means guard ty (Capture closure part) below h = h

  new_means : (x : NamedEntry) → Contains xs x → Means w.items (behind (are_bound false xs) p) x.ty x.meaning
  new_means x c =
      subst (Means w.items (behind (are_bound false xs) p) x.ty) (sym (fresh_at m n xs x fresh c).0)
      (entry_found m false n xs p.entries x fresh c)

  -- names that are bound come into scope
  pub bound_stands : Stands (with_variables xs env) w (behind (are_bound false xs) p)
  bound_stands =
      record {
        variables = λ x c. by x (joined_cases xs env.variables x c);
        loops = λ a c. stands.loops a c;
        closures = stands.closures;
      }
    where
      by : (x : NamedEntry) → Contains xs x ⊎ Contains env.variables x → Means w.items (behind (are_bound false xs) p) x.ty
          x.meaning
      by x (inl new_) = new_means x new_
      by x (inr old) = old_means false x.ty x.meaning (k.keys x old) (stands.variables x old)

  -- inside their own guard they are the parts that they would take
  pub guard_stands : Stands (with_variables (in_guard xs) env) w (behind (are_bound true xs) p)
  guard_stands =
      record {
        variables = λ x c. by x (joined_cases (in_guard xs) env.variables x c);
        loops = λ a c. stands.loops a c;
        closures = stands.closures;
      }
    where
      new_ : (y x : NamedEntry) → Contains xs x → y.ty ≡ x.ty → y.meaning ≡ guarded x.meaning → Means w.items (behind
          (are_bound
          true xs) p) y.ty y.meaning
      new_ y x c ty meaning =
          subst (λ u. Means w.items (behind (are_bound true xs) p) u y.meaning) (sym ty)
          (subst (Means w.items (behind (are_bound true xs) p) x.ty) (sym (meaning ∙ ap guarded (fresh_at m n xs x fresh
          c).0)) (entry_found m true n xs p.entries x fresh c))

      by : (y : NamedEntry) → Contains (in_guard xs) y ⊎ Contains env.variables y → Means w.items (behind (are_bound true
          xs) p)
          y.ty y.meaning
      by y (inl c) = let x = guarded_from xs y c in new_ y x.0 x.1 x.2 x.3
      by y (inr old) = old_means true y.ty y.meaning (k.keys y old) (stands.variables y old)

-- what is known of them
ready_at : (items : ItemTable) (xs : List NamedEntry) (x : NamedEntry) → AreReadyTypes items xs → Contains xs x → IsReady items
    x.ty
ready_at items [] x h c = absurd (omega (arith, c.1))
ready_at items (y ∷ ys) x h c = by (contains_cases y ys x c) (λ d. ready_at items ys x h.1 d)
  where
    by : (y ≡ x) ⊎ Contains ys x → (Contains ys x → IsReady items x.ty) → IsReady items x.ty
    by (inl same) on = subst (λ (z : NamedEntry). IsReady items z.ty) same h.0
    by (inr more) on = on more

pub knows_bound : (env : Env) (t : TypingState) (n : ℕ) (xs : List NamedEntry) → Knows env t → AreFresh n xs t.next_node →
    AreReadyTypes t.items xs → Knows (with_variables xs env) t
knows_bound env t n xs k fresh types =
    record {
      types = λ x c. ty x (joined_cases xs env.variables x c);
      keys = λ x c. key x (joined_cases xs env.variables x c);
      loops = k.loops;
      breaks = k.breaks;
      items = k.items;
    }
  where
    ty : (x : NamedEntry) → Contains xs x ⊎ Contains env.variables x → IsReady t.items x.ty
    ty x (inl new_) = ready_at t.items xs x types new_
    ty x (inr old) = k.types x old

    key : (x : NamedEntry) → Contains xs x ⊎ Contains env.variables x → IsBelow t.next_node x.meaning
    key x (inl new_) =
        let is = fresh_at t.next_node n xs x fresh new_ in subst (IsBelow t.next_node) (sym is.0) is.2
    key x (inr old) = k.keys x old

pub knows_guarded : (env : Env) (t : TypingState) (n : ℕ) (xs : List NamedEntry) → Knows env t → AreFresh n xs t.next_node →
    AreReadyTypes t.items xs → Knows (with_variables (in_guard xs) env) t
knows_guarded env t n xs k fresh types =
    record {
      types = λ x c. ty x (joined_cases (in_guard xs) env.variables x c);
      keys = λ x c. key x (joined_cases (in_guard xs) env.variables x c);
      loops = k.loops;
      breaks = k.breaks;
      items = k.items;
    }
  where
    ty : (x : NamedEntry) → Contains (in_guard xs) x ⊎ Contains env.variables x → IsReady t.items x.ty
    ty x (inl new_) =
        let y = guarded_from xs x new_ in subst (IsReady t.items) (sym y.2) (ready_at t.items xs y.0 types y.1)
    ty x (inr old) = k.types x old

    key : (x : NamedEntry) → Contains (in_guard xs) x ⊎ Contains env.variables x → IsBelow t.next_node x.meaning
    key x (inl new_) =
        let y = guarded_from xs x new_ in
        let is = fresh_at t.next_node n xs y.0 fresh y.1 in
        subst (IsBelow t.next_node) (sym (y.3 ∙ ap guarded is.0)) is.2
    key x (inr old) = k.keys x old
