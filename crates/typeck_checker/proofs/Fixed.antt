-- What may not be moved out of, by keys in whatever order.
use Rattle.std.proofs.Common.{◌≡◌, ℕ, Bool, true, false, ◌||◌, List, [], ◌∷◌, ◌++◌, reverse, refl, ap, sym, ◌∙◌}
use Rattle.std.specs.Prelude.{◌==◌}
use Rattle.std.specs.List.{list_any}
use Rattle.std.proofs.lemmas.List.{reverse-append, map_push}
use Rattle.mir_base.specs.declared.place_in_text.Key.{Key}
use Rattle.mir_ty.specs.Facts.{has_drop_impl}
use Rattle.mir_ty.specs.ItemTable.{ItemTable}
use Rattle.typeck_env.proofs.Keys.{any_key}
use Rattle.typeck_env.specs.Scope.{keys_of}
use Rattle.typed_tree.specs.Tree.{Node, node, Form, Variable, Field, Index, Deref, Number, Truth, UnitValue, Captured, Not, Negate, Arithmetic, Comparison, And, Or, Assign, Call, MethodCall, VirtualCall, ClosureCall, Make, Tuple, Array, Closure, NewBox, Print, Ask, DropValue, Forget, Panic, Borrow, Unsize, Block, Let, Evaluate, If, IfLet, Match, Arm, Loop, While, WhileLet, Break, Continue, Return, Wildcard, Binding, NumberPattern, TruthPattern, StructPattern, VariantPattern, TuplePattern, ArrayPattern, OrPattern}
use Rattle.typeck_checker.specs.Stand.{env_in}
use Rattle.typeck_checker.specs.declared.body_scope.BodyScope.{BodyScope}
use Rattle.typeck_checker.specs.declared.tables.Tables.{Tables}
use Rattle.typing_rules.specs.Places.{in_own_guard, is_any, is_fixed, is_fixed_form}
use Rattle.well_typed.specs.Places.{ty_of}
use Rattle.well_typed.specs.Types.{is_reference}

or_swaps : (a b : Bool) → (a || b) ≡ (b || a)
or_swaps true true = refl
or_swaps true false = refl
or_swaps false true = refl
or_swaps false false = refl

any_behind : (k x : ℕ) (xs : List ℕ) → is_any k (xs ++ x ∷ []) ≡ ((k == x) || is_any k xs)
any_behind k x [] = refl
any_behind k x (y ∷ ys) =
    ap (λ b. (k == y) || b) (any_behind k x ys) ∙ swapped (k == y) (k == x) (is_any k ys)
  where
    swapped : (a b c : Bool) → (a || (b || c)) ≡ (b || (a || c))
    swapped true true c = refl
    swapped true false c = refl
    swapped false true c = refl
    swapped false false c = refl

any_turned : (k : ℕ) (gs : List Key) → is_any k (keys_of (reverse gs)) ≡ is_any k (keys_of gs)
any_turned k [] = refl
any_turned k (g ∷ gs) =
    ap (λ (l : List Key). is_any k (keys_of l)) (reverse-append (g ∷ []) gs)
    ∙ ap (is_any k) (map_push (λ (x : Key). x.0) (reverse gs) g) ∙ any_behind k g.0 (keys_of (reverse gs))
    ∙ ap (λ b. (k == g.0) || b) (any_turned k gs)

module _ (items : ItemTable) (ks ls : List ℕ) (same : (k : ℕ) → is_any k ks ≡ is_any k ls) where
  mutual
    alike : (n : Node) → is_fixed items ks n ≡ is_fixed items ls n
    alike (node id at ty by form) = form_alike form

    form_alike : (f : Form) → is_fixed_form items ks f ≡ is_fixed_form items ls f
    form_alike (Variable key) = same key
    form_alike (Field base part) = ap (λ b. has_drop_impl items (ty_of base) || b) (alike base)
    form_alike (Deref base) = ap (λ b. is_reference items (ty_of base) || b) (alike base)
    form_alike other = refl

pub fixed_alike : (items : ItemTable) (vs : List ℕ) (gs : List Key) (n : Node) → vs ≡ keys_of (reverse gs) →
    is_fixed items (keys_of gs) n ≡ is_fixed items vs n
fixed_alike items vs gs n e =
    alike items (keys_of gs) vs (λ k. sym (any_turned k gs) ∙ ap (is_any k) (sym e)) n

pub guard_alike : (k : ℕ) (vs : List ℕ) (gs : List Key) → vs ≡ keys_of (reverse gs) → list_any (λ (g : Key). k == g.0) gs ≡ is_any k vs
guard_alike k vs gs e = any_key k gs ∙ sym (any_turned k gs) ∙ ap (is_any k) (sym e)

module _ (t : Tables) (s : BodyScope) where
  pub fixed_at : (items : ItemTable) (n : Node) → is_fixed items (keys_of s.guards) n ≡ is_fixed items (in_own_guard (env_in t s).variables) n
  unfolding env_in
  fixed_at items n = fixed_alike items (in_own_guard s.variables) s.guards n s.guarded

  pub guard_at : (k : ℕ) → list_any (λ (g : Key). k == g.0) s.guards ≡ is_any k (in_own_guard (env_in t s).variables)
  unfolding env_in
  guard_at k = guard_alike k (in_own_guard s.variables) s.guards s.guarded
