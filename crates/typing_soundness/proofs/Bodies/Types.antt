-- Types that are written: none of them is a closure's, and those of parameters may be references.
use Rattle.std.proofs.Common.{◌≡◌, ℕ, zero, suc, Bool, true, false, ◌||◌, not, nat_le, if◌then◌else◌, List, [], ◌∷◌, length, slice_get, Option, Some, None, IsTrue, refl, sym, subst, ◌∙◌, arith}
use Rattle.std.specs.Prelude.{option_and_then, is_some, codes}
use Rattle.std.specs.Str.{bytes_eq}
use Rattle.std.proofs.lemmas.Option.{none-some, same_Some}
use Rattle.mir_base.specs.declared.int_kind.IntKind.{IntKind}
use Rattle.mir_base.specs.declared.place_in_text.Pos.{Pos}
use Rattle.mir_base.specs.declared.rule.Rule.{Rule}
use Rattle.mir_ty.specs.declared.ty.Ty.{Ty}
use Rattle.mir_ty.specs.declared.ty.TyId.{TyId}
use Rattle.mir_ty.specs.ItemTable.{ItemTable, type_at}
use Rattle.well_typed.specs.Types.{closure_in, dyn_in, is_reference, reference_in}
use Rattle.typing_rules.specs.Check.{TypingState, interned}
use Rattle.typing_rules.specs.Places.{int, bool, unit, never}
use Rattle.typing_rules.specs.Promises.{Extends, IsThere, IsReady, IsAlone, IsValueType, AreReady, Gives}
use Rattle.typing_rules.specs.RowPromises.{IsMade}
use Rattle.src_ast.specs.Syntax.{Word, Receiver, ByValue, ByShared, ByUnique, Syn, syn, AType, WrittenType, NamedType, GenericType, DynType, SelfType, ParensType, TupleType, ArrayType, NeverType, RefType, Syns, no_syn, a_syn}
use Rattle.typing_rules.specs.Bodies as bodies
use Rattle.typing_rules.specs.Scope.{Env}
use Rattle.typing_rules.specs.Written as rules
use Rattle.typing_rules.specs.Written.{WrittenScope}
use Rattle.typing_rules.proofs.Sound.Constructors.{tuple_made, array_made}
use Rattle.typing_rules.proofs.Sound.Gives.{bind, weaker, with_ready, given, gives_nothing, obeyed, found, grows_refl, grows_trans}
use Rattle.typing_rules.proofs.Sound.Interned.{interned_sound}
use Rattle.typing_rules.proofs.Sound.Later.{alone_later, alone_ready, alone_no_reference, type_later}
use Rattle.typing_rules.proofs.Sound.Named.{adt_made}
use Rattle.typing_rules.proofs.Sound.Operators.{int_at}
use Rattle.typing_rules.proofs.Sound.Written.{box_made, dyn_made, AllAlone, both_alone}

-- a type of values, and no closure's
abbrev pub IsPlain : ItemTable → TyId → Type 0
IsPlain items id = (ty : Ty) × (type_at items id ≡ Some ty) × IsValueType items ty × (closure_in ty ≡ None)

-- a type of a parameter
abbrev pub IsParamTy : ItemTable → TyId → Type 0
IsParamTy items id =
    (ty : Ty) × (type_at items id ≡ Some ty) × IsThere items ty × (closure_in ty ≡ None) × (dyn_in ty ≡ None)

there_of : (items : ItemTable) (ty : Ty) → IsValueType items ty → IsThere items ty
there_of items (Ty.Closure n) h = h
there_of items _ h = tt

no_dyn : (items : ItemTable) (ty : Ty) → IsValueType items ty → dyn_in ty ≡ None
no_dyn items (Ty.Dyn n) h = absurd h
no_dyn items _ h = refl

pub plain_alone : (items : ItemTable) (id : TyId) → IsPlain items id → IsAlone items id
plain_alone items id h = (h.0, h.1, h.2)

pub plain_param : (items : ItemTable) (id : TyId) → IsPlain items id → IsParamTy items id
plain_param items id h = (h.0, h.1, there_of items h.0 h.2, h.3, no_dyn items h.0 h.2)

pub param_ready : (items : ItemTable) (id : TyId) → IsParamTy items id → IsReady items id
param_ready items id h = (h.0, h.1, h.2)

pub value_plain : (old new : ItemTable) → Extends old new → (id : TyId) → IsPlain old id → IsPlain new id
value_plain old new e id h = let a = alone_later e id (plain_alone old id h) in (h.0, type_later e id h.0 h.1, by, h.3)
  where
    by : IsValueType new h.0
    by = subst (IsValueType new) (same_Some _ h.0 (sym (alone_later e id (plain_alone old id h)).1 ∙ type_later e id h.0
        h.1)) (alone_later e id (plain_alone old id h)).2

-- ---- scalars

among_plain : (items : ItemTable) (xs : List (Word × TyId)) → ((n : ℕ) (x : Word × TyId) → slice_get xs n ≡ Some x →
    IsPlain items x.1) → (name : Word) (ty : TyId) → rules.scalar_among xs name ≡ Some ty → IsPlain items ty
among_plain items [] each name ty h = absurd (none-some ty h)
among_plain items (x ∷ xs) each name ty h =
    by (among_plain items xs (λ n y is. each (suc n) y is) name ty) (bytes_eq x.0 name) h
  where
    by : (rules.scalar_among xs name ≡ Some ty → IsPlain items ty) → (b : Bool) → (if b then Some x.1 else
        rules.scalar_among xs name) ≡ Some ty → IsPlain items ty
    by on true h = subst (IsPlain items) (same_Some x.1 ty h) (each 0 x refl)
    by on false h = on h

abbrev names : List (Word × TyId)
names =
    (codes "i32", int IntKind.I32) ∷ (codes "i64", int IntKind.I64) ∷ (codes "u32", int IntKind.U32) ∷ (
      codes "u64",
      int IntKind.U64,
    ) ∷ (codes "usize", int IntKind.Usize) ∷ (codes "bool", bool) ∷ []

int_plain : (items : ItemTable) → AreReady items → (kind : IntKind) → IsPlain items (int kind)
int_plain items all kind = (Ty.Int kind, int_at items all kind, tt, refl)

bool_plain : (items : ItemTable) → AreReady items → IsPlain items bool
bool_plain items all = (Ty.Bool, all.begins 1 Ty.Bool refl, tt, refl)

pub unit_plain : (items : ItemTable) → AreReady items → IsPlain items unit
unit_plain items all = (Ty.Unit, all.begins 0 Ty.Unit refl, tt, refl)

pub never_plain : (items : ItemTable) → AreReady items → IsPlain items never
never_plain items all = (Ty.Never, all.begins 2 Ty.Never refl, tt, refl)

pub scalar_plain : (items : ItemTable) → AreReady items → (name : Word) (ty : TyId) → rules.scalar_named name ≡ Some ty →
    IsPlain items ty
scalar_plain items all name ty h = among_plain items names each name ty h
  where
    each : (n : ℕ) (x : Word × TyId) → slice_get names n ≡ Some x → IsPlain items x.1
    each zero x h = subst (λ (y : Word × TyId). IsPlain items y.1) (same_Some _ x h) (int_plain items all IntKind.I32)
    each (suc zero) x h = subst (λ (y : Word × TyId). IsPlain items y.1) (same_Some _ x h) (int_plain items all
        IntKind.I64)
    each (suc (suc zero)) x h = subst (λ (y : Word × TyId). IsPlain items y.1) (same_Some _ x h) (int_plain items all
        IntKind.U32)
    each (suc (suc (suc zero))) x h = subst (λ (y : Word × TyId). IsPlain items y.1) (same_Some _ x h) (int_plain items
        all IntKind.U64)
    each (suc (suc (suc (suc zero)))) x h = subst (λ (y : Word × TyId). IsPlain items y.1) (same_Some _ x h) (int_plain
        items all IntKind.Usize)
    each (suc (suc (suc (suc (suc zero))))) x h = subst (λ (y : Word × TyId). IsPlain items y.1) (same_Some _ x h)
        (bool_plain items all)
    each (suc (suc (suc (suc (suc (suc n)))))) x h = absurd (none-some x h)

-- ---- one type at a time

pub adt_plain : (n : ℕ) (s : TypingState) → Gives s (λ w ty. IsPlain w.items ty) (interned (Ty.Adt n) s)
adt_plain n s =
    with_ready λ all. weaker (λ w ty. IsPlain w.items ty) (interned_sound (Ty.Adt n) s (adt_made s.items all n)) λ ty w
    ready g is. (Ty.Adt n, is, tt, refl)

box_plain : (content : TyId) (s : TypingState) → IsReady s.items content → IsTrue (not (is_reference s.items content)) → Gives
    s (λ w ty. IsPlain w.items ty) (interned (Ty.Boxed content) s)
box_plain content s ready plain =
    weaker (λ w ty. IsPlain w.items ty) (interned_sound (Ty.Boxed content) s (box_made s.items content ready plain)) λ
    ty w all g is. (Ty.Boxed content, is, tt, refl)

named_plain : (at : Pos) (adt : Option ℕ) (scalar : Option TyId) (s : TypingState) → ((ty : TyId) → scalar ≡ Some ty →
    IsPlain s.items ty) → Gives s (λ w t. IsPlain w.items t) (rules.named_by at adt scalar s)
named_plain at adt (Some ty) s plain = given ty λ ready w g. value_plain s.items w.items g.items ty (plain ty refl)
named_plain at adt None s plain = found Rule.T01 at adt _ λ n h. adt_plain n s

tuple_by_plain : (tys : List TyId) (s : TypingState) → AllAlone tys s → Gives s (λ w ty. IsPlain w.items ty) (rules.tuple_by
    tys s)
tuple_by_plain [] s all = with_ready λ ready. given _ λ r w g. unit_plain w.items (g.ready ready)
tuple_by_plain (t ∷ tys) s all =
    weaker (λ w ty. IsPlain w.items ty) (interned_sound (Ty.Tuple (t ∷ tys)) s (tuple_made s.items (t ∷ tys) all)) λ ty
    w ready g is. (Ty.Tuple (t ∷ tys), is, tt, refl)

ref_made : (items : ItemTable) (unique : Bool) (to : TyId) → IsAlone items to → IsMade items (rules.reference_to unique
    to)
ref_made items true to alone =
    record {
      held = λ part has. absurd (omega (arith, has.1));
      parts = λ part variant n is. absurd (none-some part is);
      inside = λ t is. subst (λ x. IsReady items x × IsTrue (not (is_reference items x))) (same_Some to t is) (
        alone_ready items to alone,
        alone_no_reference items to alone,
      );
    }
ref_made items false to alone =
    record {
      held = λ part has. absurd (omega (arith, has.1));
      parts = λ part variant n is. absurd (none-some part is);
      inside = λ t is. subst (λ x. IsReady items x × IsTrue (not (is_reference items x))) (same_Some to t is) (
        alone_ready items to alone,
        alone_no_reference items to alone,
      );
    }

pub ref_param : (unique : Bool) (to : TyId) (s : TypingState) → IsAlone s.items to → Gives s (λ w ty. IsParamTy w.items ty)
    (interned (rules.reference_to unique to) s)
ref_param unique to s alone =
    weaker (λ w ty. IsParamTy w.items ty) (interned_sound (rules.reference_to unique to) s (ref_made s.items unique to
    alone)) λ ty w ready g is. by unique ty w is
  where
    by : (b : Bool) (ty : TyId) (w : TypingState) → type_at w.items ty ≡ Some (rules.reference_to b to) → IsParamTy w.items ty
    by true ty w is = (Ty.Unique to, is, tt, refl, refl)
    by false ty w is = (Ty.Shared to, is, tt, refl, refl)

-- ---- the recursion

module _ (around : WrittenScope) (limits : around.has_limits ≡ true) where
  mutual
    pub written_plain : (ty : Syn) (s : TypingState) → Gives s (λ w t. IsPlain w.items t) (rules.written around ty s)
    written_plain (syn at (AType t)) s = written_form_plain at t s
    written_plain (syn at _) s = gives_nothing Rule.T20 at

    written_form_plain : (at : Pos) (form : WrittenType) (s : TypingState) → Gives s (λ w t. IsPlain w.items t) (rules.written_form
        around at form s)
    written_form_plain at (NamedType name) s =
        with_ready λ all. named_plain at (rules.number_of around.adts name) (rules.scalar_named name) s (λ ty h.
        scalar_plain s.items all name ty h)
    written_form_plain at (GenericType name content) s =
        obeyed Rule.T01 at (rules.is_box name) _ λ is. bind (written_plain content s) λ ty t g d. let now = plain_alone
        t.items ty (d t (grows_refl t)) in box_plain ty t (alone_ready t.items ty now) (alone_no_reference t.items ty
        now)
    written_form_plain at (DynType name trait_) s =
        obeyed Rule.T01 at (rules.is_box name) _ λ is. found Rule.T01 trait_.0 (rules.number_of around.traits trait_.1)
        _ λ n h. bind (interned_sound (Ty.Dyn n) s (dyn_made s.items n)) λ ty t g d. let now = d t (grows_refl t) in
        box_plain ty t (Ty.Dyn n, now, tt) (subst (λ o. IsTrue (not (is_some (option_and_then reference_in o)))) (sym
        now) refl)
    written_form_plain at SelfType s = found Rule.T01 at around.self_adt _ λ n h. adt_plain n s
    written_form_plain at (ParensType inside) s = written_plain inside s
    written_form_plain at (TupleType parts) s =
        bind (all_written_plain parts s) λ tys t g d. bind (tuple_by_plain tys t (d t (grows_refl t))) λ ty u h e.
        obeyed Rule.T19 at (not around.has_limits || nat_le (length tys) 12) _ λ few. given ty λ ready w l. e w l
    written_form_plain at (ArrayType element count suffix) s =
        bind (written_plain element s) λ ty t g d. obeyed Rule.T03 at (not around.has_limits || rules.is_usize suffix) _
        λ usize. obeyed Rule.T19 at (not around.has_limits || nat_le count 32) _ λ few. weaker (λ w x. IsPlain w.items
        x) (interned_sound (Ty.Array ty (rules.length_shown count)) t (array_made t.items ty (rules.length_shown count)
        (plain_alone t.items ty (d t (grows_refl t))))) λ x w ready l is. (
          Ty.Array ty (rules.length_shown count),
          is,
          tt,
          refl,
        )
    written_form_plain at NeverType s = with_ready λ all. given _ λ r w g. never_plain w.items (g.ready all)
    written_form_plain at (RefType unique to) s =
        bind (written_plain to s) λ ty t g d. obeyed Rule.T08 at (not around.has_limits) _ λ no_limits. absurd (let no_ :
        IsTrue false = subst (λ b. IsTrue (not b)) limits no_limits in cc)

    all_written_plain : (parts : Syns) (s : TypingState) → Gives s (λ w tys. AllAlone tys w) (rules.all_written around parts
        s)
    all_written_plain no_syn s = given [] λ ready w g. λ n ty h. absurd (none-some ty h)
    all_written_plain (a_syn first rest) s =
        bind (written_plain first s) λ ty t g d. bind (all_written_plain rest t) λ tys u h e. given (ty ∷ tys) λ ready w
        l. both_alone ty tys w (plain_alone w.items ty (d w (grows_trans h l))) (e w l)

  plain_given : (at : Pos) (form : WrittenType) (s : TypingState) → Gives s (λ w t. IsParamTy w.items t) (rules.written_form around
      at form s)
  plain_given at form s =
      weaker (λ w t. IsParamTy w.items t) (written_form_plain at form s) λ t w all g is. plain_param w.items t is

  mutual
    pub written_param_sound : (ty : Syn) (s : TypingState) → Gives s (λ w t. IsParamTy w.items t) (rules.written_param around
        ty s)
    written_param_sound (syn at (AType t)) s = written_param_form_sound at t s
    written_param_sound (syn at _) s = gives_nothing Rule.T20 at

    written_param_form_sound : (at : Pos) (form : WrittenType) (s : TypingState) → Gives s (λ w t. IsParamTy w.items t)
        (rules.written_param_form around at form s)
    written_param_form_sound at (ParensType inside) s = written_param_sound inside s
    written_param_form_sound at (RefType unique to) s =
        bind (written_plain to s) λ ty t g d. ref_param unique ty t (plain_alone t.items ty (d t (grows_refl t)))
    written_param_form_sound at form s = plain_given at form s

-- ---- `self`

pub receiver_sound : (env : Env) (at : Pos) (receiver : Receiver) (s : TypingState) → Gives s (λ w t. IsParamTy w.items t)
    (bodies.receiver_ty env at receiver s)
receiver_sound env at receiver s =
    found Rule.T01 at env.self_adt _ λ n is. bind (adt_plain n s) λ own t g d. by receiver own t (d t (grows_refl t))
  where
    by : (r : Receiver) (own : TyId) (t : TypingState) → IsPlain t.items own → Gives t (λ w x. IsParamTy w.items x)
        (bodies.self_ty r own t)
    by ByValue own t plain =
        given own λ ready w g. plain_param w.items own (value_plain t.items w.items g.items own plain)
    by ByShared own t plain = ref_param false own t (plain_alone t.items own plain)
    by ByUnique own t plain = ref_param true own t (plain_alone t.items own plain)
