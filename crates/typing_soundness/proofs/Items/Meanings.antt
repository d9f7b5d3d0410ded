-- What a type that is written means, apart from rules and states: a type has one number.
use Rattle.std.proofs.Common.{◌≡◌, ℕ, Bool, ◌||◌, not, nat_le, List, [], ◌∷◌, length, Option, Some, None, Result, Ok, refl, ap, sym, subst, ◌∙◌}
use Rattle.std.specs.List.{position as position_of}
use Rattle.std.proofs.lemmas.Option.{same_Some}
use Rattle.mir_base.specs.declared.place_in_text.Pos.{Pos}
use Rattle.mir_base.specs.declared.rule.Rule.{Rule}
use Rattle.mir_ty.specs.declared.ty.Ty.{Ty}
use Rattle.mir_ty.specs.declared.ty.TyId.{TyId}
use Rattle.mir_ty.specs.AreItems.{AreDistinct}
use Rattle.mir_ty.specs.ItemTable.{ItemTable, type_at}
use Rattle.mir_ty.proofs.ListLemmas.{slice_get-append_left, slice_get-last}
use Rattle.well_typed.specs.Items.{is_equal}
use Rattle.typing_rules.specs.Check.{TypingState, Broken, interned, interned_at}
use Rattle.typing_rules.specs.Written as rules
use Rattle.typing_rules.specs.Written.{WrittenScope}
use Rattle.src_ast.specs.Syntax.{Syn, syn, AType, WrittenType, NamedType, GenericType, DynType, SelfType, ParensType, TupleType, ArrayType, NeverType, RefType, Syns, no_syn, a_syn}
use Rattle.typing_rules.proofs.Sound.Interned.{found_at}
use Rattle.typing_soundness.specs.Types.{HaveTypes, NamesTy, IsTupleOf, Means, MeansForm, MeanAll}
use Rattle.typing_soundness.proofs.Walking.Later.{means_later, all_later}
use Rattle.typing_soundness.specs.Walks.{Walked}
use Rattle.typing_soundness.proofs.Walking.Steps.{walk, walk_map, walk_obeyed, walk_found, walk_ends}

module _ (around : WrittenScope) where
  -- ---- one number

  module _ (items : ItemTable) (distinct : AreDistinct items.types) where
    pub same_type : (a b : TyId) (t u : Ty) → type_at items a ≡ Some t → type_at items b ≡ Some u → t ≡ u → a ≡ b
    same_type a b t u at_a at_b e =
        let n = distinct a.0 b.0 u (at_a ∙ ap Some e) at_b in λ i. record { 0 = n i }

    named_once : (adt : Option ℕ) (scalar : Option TyId) (a b : TyId) → NamesTy items adt scalar a → NamesTy items adt
        scalar b → a ≡ b
    named_once adt (Some scalar) a b h g = sym h ∙ g
    named_once None None a b h g = absurd h
    named_once (Some n) None a b h g = same_type a b (Ty.Adt n) (Ty.Adt n) h g refl

    tuple_once : (xs : List TyId) (a b : TyId) → IsTupleOf items xs a → IsTupleOf items xs b → a ≡ b
    tuple_once [] a b h g = sym h ∙ g
    tuple_once (t ∷ ts) a b h g = same_type a b (Ty.Tuple (t ∷ ts)) (Ty.Tuple (t ∷ ts)) h g refl

    mutual
      pub means_once : (x : Syn) (a b : TyId) → Means around items x a → Means around items x b → a ≡ b
      means_once (syn at (AType t)) a b h g = form_once t a b h g
      means_once _ a b h g = absurd h

      form_once : (form : WrittenType) (a b : TyId) → MeansForm around items form a → MeansForm around items form b → a ≡ b
      form_once (NamedType name) a b h g =
          named_once (rules.number_of around.adts name) (rules.scalar_named name) a b h g
      form_once (GenericType name content) a b h g =
          same_type a b (Ty.Boxed h.0) (Ty.Boxed g.0) h.2 g.2 (ap Ty.Boxed (means_once content h.0 g.0 h.1 g.1))
      form_once (DynType name trait_) a b h g =
          let n : h.0 ≡ g.0 = same_Some h.0 g.0 (sym h.2 ∙ g.2) in
          same_type a b (Ty.Boxed h.1) (Ty.Boxed g.1) h.4 g.4 (ap Ty.Boxed (same_type h.1 g.1 (Ty.Dyn h.0) (Ty.Dyn g.0)
          h.3 g.3 (ap Ty.Dyn n)))
      form_once SelfType a b h g =
          same_type a b (Ty.Adt h.0) (Ty.Adt g.0) h.2 g.2 (ap Ty.Adt (same_Some h.0 g.0 (sym h.1 ∙ g.1)))
      form_once (ParensType inside) a b h g = means_once inside a b h g
      form_once (TupleType parts) a b h g =
          tuple_once g.0 a b (subst (λ tys. IsTupleOf items tys a) (all_once parts h.0 g.0 h.1 g.1) h.2) g.2
      form_once (ArrayType element count suffix) a b h g =
          same_type a b (Ty.Array h.0 (rules.length_shown count)) (Ty.Array g.0 (rules.length_shown count)) h.2 g.2 (ap
          (λ t. Ty.Array t (rules.length_shown count)) (means_once element h.0 g.0 h.1 g.1))
      form_once NeverType a b h g = sym h ∙ g
      form_once (RefType unique to) a b h g =
          same_type a b (rules.reference_to unique h.0) (rules.reference_to unique g.0) h.2 g.2 (ap (rules.reference_to
          unique) (means_once to h.0 g.0 h.1 g.1))

      all_once : (xs : Syns) (as_ bs : List TyId) → MeanAll around items xs as_ → MeanAll around items xs bs → as_ ≡ bs
      all_once no_syn [] [] h g = refl
      all_once no_syn [] (b ∷ bs) h g = absurd g
      all_once no_syn (a ∷ as_) bs h g = absurd h
      all_once (a_syn first rest) [] bs h g = absurd h
      all_once (a_syn first rest) (a ∷ as_) [] h g = absurd g
      all_once (a_syn first rest) (a ∷ as_) (b ∷ bs) h g =
          λ i. means_once first a b h.0 g.0 i ∷ all_once rest as_ bs h.1 g.1 i

-- ---- what the rules give

pub have_refl : (items : ItemTable) → HaveTypes items items
have_refl items n ty h = h

pub interned_means : (ty : Ty) (s u : TypingState) → HaveTypes u.items s.items → Walked (λ id t. HaveTypes u.items
    t.items × HaveTypes s.items t.items × (type_at t.items id ≡ Some ty)) (interned ty s)
interned_means ty s u e = by (position_of (is_equal ty) s.items.types) refl
  where
    by : (o : Option ℕ) → position_of (is_equal ty) s.items.types ≡ o → Walked (λ id t. HaveTypes u.items t.items ×
        HaveTypes s.items t.items × (type_at t.items id ≡ Some ty)) (interned_at ty o s)
    by (Some n) is = walk_ends (e, have_refl s.items, found_at ty s.items.types n is)
    by None is = walk_ends (
      λ n t h. slice_get-append_left s.items.types (ty ∷ []) n t (e n t h),
      λ n t h. slice_get-append_left s.items.types (ty ∷ []) n t h,
      slice_get-last s.items.types ty,
    )

module _ (around : WrittenScope) where
  abbrev Given : Syn → TypingState → TyId → TypingState → Type 0
  Given x s id t = HaveTypes s.items t.items × Means around t.items x id

  named_given : (at : Pos) (adt : Option ℕ) (scalar : Option TyId) (s : TypingState) → Walked (λ id t. HaveTypes s.items
      t.items × NamesTy t.items adt scalar id) (rules.named_by at adt scalar s)
  named_given at adt (Some ty) s = walk_ends (have_refl s.items, refl)
  named_given at None None s = record { so = tt }
  named_given at (Some n) None s =
      walk_map (interned_means (Ty.Adt n) s s (have_refl s.items)) λ id t h. (h.0, h.2)

  tuple_given : (tys : List TyId) (s u : TypingState) → HaveTypes u.items s.items → Walked (λ id t. HaveTypes
      u.items t.items × HaveTypes s.items t.items × IsTupleOf t.items tys id) (rules.tuple_by tys s)
  tuple_given [] s u e = walk_ends (e, have_refl s.items, refl)
  tuple_given (t ∷ ts) s u e = interned_means (Ty.Tuple (t ∷ ts)) s u e

  mutual
    pub written_given : (x : Syn) (s : TypingState) → Walked (Given x s) (rules.written around x s)
    written_given (syn at (AType t)) s = form_given at t s
    written_given _ s = record { so = tt }

    form_given : (at : Pos) (form : WrittenType) (s : TypingState) → Walked (λ id t. HaveTypes s.items t.items × MeansForm around
        t.items form id) (rules.written_form around at form s)
    form_given at (NamedType name) s =
        named_given at (rules.number_of around.adts name) (rules.scalar_named name) s
    form_given at (GenericType name content) s =
        walk_obeyed Rule.T01 at (rules.is_box name) _ λ boxed. walk (written_given content s) λ ty t g. walk_map
        (interned_means (Ty.Boxed ty) t s g.0) λ id u h. (
          h.0,
          (
            ty,
            means_later around t.items u.items h.1 content
                ty g.1,
            h.2,
            boxed,
          ),
        )
    form_given at (DynType name trait_) s =
        walk_obeyed Rule.T01 at (rules.is_box name) _ λ boxed. walk_found Rule.T01 trait_.0 (rules.number_of around.traits
        trait_.1) _ λ n is. walk (interned_means (Ty.Dyn n) s s (have_refl s.items)) λ ty t g. walk_map
        (interned_means (Ty.Boxed ty) t s g.0) λ id u h. (h.0, (n, ty, is, h.1 ty.0 (Ty.Dyn n) g.2, h.2, boxed))
    form_given at SelfType s =
        walk_found Rule.T01 at around.self_adt _ λ n is. walk_map (interned_means (Ty.Adt n) s s (have_refl
        s.items)) λ id t h. (h.0, (n, is, h.2))
    form_given at (ParensType inside) s = written_given inside s
    form_given at (TupleType parts) s =
        walk (all_given parts s) λ tys t g. walk (tuple_given tys t s g.0) λ ty u h. walk_obeyed Rule.T19 at (not
        around.has_limits || nat_le (length tys) 12) _ λ _. walk_ends (
          h.0,
          (
            tys,
            all_later around t.items u.items h.1
                parts tys g.1,
            h.2,
          ),
        )
    form_given at (ArrayType element count suffix) s =
        walk (written_given element s) λ ty t g. walk_obeyed Rule.T03 at (not around.has_limits || rules.is_usize
        suffix) _ λ _. walk_obeyed Rule.T19 at (not around.has_limits || nat_le count 32) _ λ _. walk_map
        (interned_means (Ty.Array ty (rules.length_shown count)) t s g.0) λ id u h. (
          h.0,
          (
            ty,
            means_later around
                t.items u.items h.1 element ty g.1,
            h.2,
          ),
        )
    form_given at NeverType s = walk_ends (have_refl s.items, refl)
    form_given at (RefType unique to) s =
        walk (written_given to s) λ ty t g. walk_obeyed Rule.T08 at (not around.has_limits) _ λ _. walk_map
        (interned_means (rules.reference_to unique ty) t s g.0) λ id u h. (
          h.0,
          (
            ty,
            means_later around t.items
                u.items h.1 to ty g.1,
            h.2,
          ),
        )

    all_given : (xs : Syns) (s : TypingState) → Walked (λ tys t. HaveTypes s.items t.items × MeanAll around t.items xs tys)
        (rules.all_written around xs s)
    all_given no_syn s = walk_ends (have_refl s.items, tt)
    all_given (a_syn first rest) s =
        walk (written_given first s) λ ty t g. walk (all_given rest t) λ tys u h. walk_ends (
          λ n x k. h.0 n x (g.0 n x
              k),
          (means_later around t.items u.items h.0 first ty g.1, h.1),
        )

  mutual
    pub param_given : (x : Syn) (s : TypingState) → Walked (Given x s) (rules.written_param around x s)
    param_given (syn at (AType t)) s = param_form_given at t s
    param_given _ s = record { so = tt }

    param_form_given : (at : Pos) (form : WrittenType) (s : TypingState) → Walked (λ id t. HaveTypes s.items t.items × MeansForm
        around t.items form id) (rules.written_param_form around at form s)
    param_form_given at (ParensType inside) s = param_given inside s
    param_form_given at (RefType unique to) s =
        walk (written_given to s) λ ty t g. walk_map (interned_means (rules.reference_to unique ty) t s g.0) λ id
        u h. (h.0, (ty, means_later around t.items u.items h.1 to ty g.1, h.2))
    param_form_given at form s = form_given at form s

-- ---- the laws

so_at : {A : Type 0} (P : A → TypingState → Type 0) (r : Result (A × TypingState) Broken) (a : A × TypingState) → Walked P r → r ≡ Ok a → P
    a.0 a.1
so_at P r a w e = (subst (Walked P) e w).so

pub one_number : (around : WrittenScope) (limits : Bool) (e : Syn) (s u : TypingState) (first second : TyId × TypingState) → rules.written
    around e s ≡ Ok first → rules.written (record around { has_limits = limits }) e u ≡ Ok second → HaveTypes
    first.1.items u.items → AreDistinct second.1.items.types → first.0 ≡ second.0
one_number around limits e s u first second is_first is_second later distinct =
    let a = so_at (Given around e s) _ first (written_given around e s) is_first in
    let b = so_at (Given (record around { has_limits = limits }) e u) _ second (written_given (record around {
      has_limits = limits;
    }) e u) is_second in
    means_once around second.1.items distinct e first.0 second.0 (means_later around first.1.items second.1.items (λ n
    ty h. b.0 n ty (later n ty h)) e first.0 a.1) (as_ b.1)
  where
    as_ : Means (record around { has_limits = limits }) second.1.items e second.0 → Means around second.1.items e second.0
    as_ h = h

pub one_param_number : (around : WrittenScope) (limits : Bool) (e : Syn) (s u : TypingState) (first second : TyId × TypingState) →
    rules.written_param around e s ≡ Ok first → rules.written_param (record around { has_limits = limits }) e u ≡ Ok
    second → HaveTypes first.1.items u.items → AreDistinct second.1.items.types → first.0 ≡ second.0
one_param_number around limits e s u first second is_first is_second later distinct =
    let a = so_at (Given around e s) _ first (param_given around e s) is_first in
    let b = so_at (Given (record around { has_limits = limits }) e u) _ second (param_given (record around {
      has_limits = limits;
    }) e u) is_second in
    means_once around second.1.items distinct e first.0 second.0 (means_later around first.1.items second.1.items (λ n
    ty h. b.0 n ty (later n ty h)) e first.0 a.1) (as_ b.1)
  where
    as_ : Means (record around { has_limits = limits }) second.1.items e second.0 → Means around second.1.items e second.0
    as_ h = h
