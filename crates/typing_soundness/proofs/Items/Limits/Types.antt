-- Types within their limits, as they come by a number or as they are written.
use Rattle.std.proofs.Common.{◌≡◌, ℕ, suc, ◌<◌, ◌≤◌, Bool, true, false, ◌&&◌, nat_le, List, [], ◌∷◌, length, slice_get, Option, Some, None, IsTrue, ◌⊎◌, inl, inr, sym, subst, arith}
use Rattle.std.specs.Prelude.{nat_lt}
use Rattle.std.specs.List.{position as position_of}
use Rattle.std.proofs.Math.Nat.{min-eq_left}
use Rattle.std.proofs.lemmas.Bool.{and_from, leb-true, lt-ltb}
use Rattle.std.proofs.lemmas.List.Quantifiers.{position-Some}
use Rattle.mir_base.specs.declared.place_in_text.Pos.{Pos}
use Rattle.mir_base.specs.declared.rule.Rule.{Rule}
use Rattle.mir_ty.specs.declared.ty.Ty.{Ty}
use Rattle.mir_ty.specs.declared.ty.TyId.{TyId}
use Rattle.mir_ty.specs.ItemTable.{ItemTable, with_type}
use Rattle.mir_ty.proofs.ListLemmas.{slice_get-push_cases}
use Rattle.well_typed.specs.Items.{is_equal}
use Rattle.typing_rules.specs.Check.{TypingState, interned, interned_at}
use Rattle.typing_rules.specs.Written as types
use Rattle.src_ast.specs.Syntax.{Syn, syn, AType, WrittenType, NamedType, GenericType, DynType, SelfType, ParensType, TupleType, ArrayType, NeverType, RefType, Syns, no_syn, a_syn}
use Rattle.typing_soundness.specs.Walks.{Walked}
use Rattle.typing_soundness.proofs.Walking.Steps.{walk, walk_map, walk_obeyed, walk_found, walk_ends}

-- how many structs and enums, traits and closures there are in the end
pub record Bounds : Type 0 where
  pub adts : ℕ
  pub traits : ℕ
  pub closures : ℕ

-- a type within its limits, where there are so many closures by now
abbrev pub IsIn : Bounds → ℕ → Ty → Type 0
IsIn b closures (Ty.Tuple parts) = IsTrue (nat_lt 0 (length parts) && nat_le (length parts) 12)
IsIn b closures (Ty.Array element count) = IsTrue (nat_le count 32)
IsIn b closures (Ty.Adt n) = n < b.adts
IsIn b closures (Ty.Dyn n) = n < b.traits
IsIn b closures (Ty.Closure n) = (n < b.closures) ⊎ (n < closures)
IsIn b closures _ = Unit {0}

-- all types in a table
abbrev pub AreIn : Bounds → ItemTable → Type 0
AreIn b items = (n : ℕ) (ty : Ty) → slice_get items.types n ≡ Some ty → IsIn b (length items.closures) ty

-- the number of the first that passes is below the length
pub position_below : {A : Type 0} (p : A → Bool) (xs : List A) (other : A) (n : ℕ) → position_of p xs ≡ Some n → n < length
    xs
position_below p xs other n is = (position-Some p xs n other is).0

-- names that stand for no more structs, enums and traits than there are
pub record AreNamed (b : Bounds) (around : types.WrittenScope) : Type 0 where
  pub adts : length around.adts ≤ b.adts
  pub traits : length around.traits ≤ b.traits
  pub self : (n : ℕ) → around.self_adt ≡ Some n → n < b.adts

module _ (b : Bounds) where
  with_type_in : (items : ItemTable) (ty : Ty) → IsIn b (length items.closures) ty → AreIn b items → AreIn b (with_type items
      ty)
  with_type_in items ty is h n t at = by (slice_get-push_cases items.types ty n t at)
    where
      by : (slice_get items.types n ≡ Some t) ⊎ ((n ≡ length items.types) × (ty ≡ t)) → IsIn b (length items.closures) t
      by (inl old) = h n t old
      by (inr new_) = subst (IsIn b (length items.closures)) new_.1 is

  -- a type gets a number, where something is so that puts it within its limits
  pub interned_when : {C : Type 0} (ty : Ty) (s : TypingState) → (C → AreIn b s.items) → (C → IsIn b (length s.items.closures) ty) →
      Walked (λ id t. C → AreIn b t.items) (interned ty s)
  interned_when {C} ty s h is = by (position_of (is_equal ty) s.items.types)
    where
      by : (o : Option ℕ) → Walked (λ id t. C → AreIn b t.items) (interned_at ty o s)
      by (Some n) = walk_ends h
      by None = walk_ends (λ c. with_type_in s.items ty (is c) (h c))

  pub interned_in : (ty : Ty) (s : TypingState) → AreIn b s.items → IsIn b (length s.items.closures) ty → Walked (λ id t. AreIn b
      t.items) (interned ty s)
  interned_in ty s h is =
      walk_map (interned_when {C = Unit {0}} ty s (λ _. h) (λ _. is)) λ id t k. k tt

  reference_in : (closures : ℕ) (unique : Bool) (to : TyId) → IsIn b closures (types.reference_to unique to)
  reference_in closures true to = tt
  reference_in closures false to = tt

  -- ---- types as they are written, by all rules

  named_in : (at : Pos) (adt : Option ℕ) (scalar : Option TyId) (s : TypingState) → ((n : ℕ) → adt ≡ Some n → n < b.adts) → AreIn b
      s.items → Walked (λ ty t. AreIn b t.items) (types.named_by at adt scalar s)
  named_in at adt (Some ty) s below h = walk_ends h
  named_in at adt None s below h = walk_found Rule.T01 at adt _ λ n is. interned_in (Ty.Adt n) s h (below n is)

  tuple_when : (tys : List TyId) (s : TypingState) → AreIn b s.items → Walked (λ ty t. IsTrue (nat_le (length tys) 12) → AreIn b
      t.items) (types.tuple_by tys s)
  tuple_when [] s h = walk_ends (λ few. h)
  tuple_when (ty ∷ tys) s h =
      interned_when (Ty.Tuple (ty ∷ tys)) s (λ few. h) λ few. and_from (nat_lt 0 (suc (length tys))) _ (lt-ltb 0 (suc (length
      tys)) (omega arith)) few

  few_shown : (count : ℕ) → IsTrue (nat_le count 32) → IsTrue (nat_le (types.length_shown count) 32)
  few_shown count few =
      subst (λ n. IsTrue (nat_le n 32)) (sym (min-eq_left (let e = leb-true count 32 few in omega (arith, e)))) few

  module _ (around : types.WrittenScope) (named : AreNamed b around) where
    abbrev full : types.WrittenScope
    full = record around { has_limits = true }

    mutual
      pub written_in : (e : Syn) (s : TypingState) → AreIn b s.items → Walked (λ ty t. AreIn b t.items) (types.written full e s)
      written_in (syn at (AType t)) s h = form_in at t s h
      written_in _ s h = record { so = tt }

      form_in : (at : Pos) (form : WrittenType) (s : TypingState) → AreIn b s.items → Walked (λ ty t. AreIn b t.items)
          (types.written_form full at form s)
      form_in at (NamedType name) s h =
          named_in at (types.number_of around.adts name) (types.scalar_named name) s (λ n is. let e = position_below _
          around.adts [] n is in let f = named.adts in omega (arith, e, f)) h
      form_in at (GenericType name content) s h =
          walk_obeyed Rule.T01 at (types.is_box name) _ λ _. walk (written_in content s h) λ ty t k. interned_in (Ty.Boxed
          ty) t k tt
      form_in at (DynType name trait_) s h =
          walk_obeyed Rule.T01 at (types.is_box name) _ λ _. walk_found Rule.T01 trait_.0 (types.number_of around.traits
          trait_.1) _ λ n is. walk (interned_in (Ty.Dyn n) s h (let e = position_below _ around.traits [] n is in let f =
          named.traits in omega (arith, e, f))) λ ty t k. interned_in (Ty.Boxed ty) t k tt
      form_in at SelfType s h =
          walk_found Rule.T01 at around.self_adt _ λ n is. interned_in (Ty.Adt n) s h (named.self n is)
      form_in at (ParensType inside) s h = written_in inside s h
      form_in at (TupleType parts) s h =
          walk (all_in parts s h) λ tys t k. walk (tuple_when tys t k) λ ty u l. walk_obeyed Rule.T19 at (nat_le (length
          tys) 12) _ λ few. walk_ends (l few)
      form_in at (ArrayType element count suffix) s h =
          walk (written_in element s h) λ ty t k. walk_obeyed Rule.T03 at (types.is_usize suffix) _ λ _. walk_obeyed
          Rule.T19 at (nat_le count 32) _ λ few. interned_in (Ty.Array ty (types.length_shown count)) t k (few_shown count
          few)
      form_in at NeverType s h = walk_ends h
      form_in at (RefType unique to) s h = walk (written_in to s h) λ ty t k. record { so = tt }

      all_in : (xs : Syns) (s : TypingState) → AreIn b s.items → Walked (λ tys t. AreIn b t.items) (types.all_written full xs s)
      all_in no_syn s h = walk_ends h
      all_in (a_syn first rest) s h =
          walk (written_in first s h) λ ty t k. walk (all_in rest t k) λ tys u l. walk_ends l

    mutual
      pub written_param_in : (e : Syn) (s : TypingState) → AreIn b s.items → Walked (λ ty t. AreIn b t.items) (types.written_param
          full e s)
      written_param_in (syn at (AType t)) s h = param_form_in at t s h
      written_param_in _ s h = record { so = tt }

      param_form_in : (at : Pos) (form : WrittenType) (s : TypingState) → AreIn b s.items → Walked (λ ty t. AreIn b t.items)
          (types.written_param_form full at form s)
      param_form_in at (ParensType inside) s h = written_param_in inside s h
      param_form_in at (RefType unique to) s h =
          walk (written_in to s h) λ ty t k. interned_in (types.reference_to unique ty) t k (reference_in (length
          t.items.closures) unique ty)
      param_form_in at form s h = form_in at form s h
