-- Types as they are written may stand alone; those of parameters may be references too.
use Rattle.std.proofs.Common.{◌≡◌, ℕ, zero, suc, Bool, true, false, ◌||◌, not, nat_le, if◌then◌else◌, List, [], ◌∷◌, length, slice_get, Option, Some, None, IsTrue, refl, sym, subst, arith}
use Rattle.std.specs.Prelude.{option_and_then, is_some, codes}
use Rattle.std.specs.Str.{bytes_eq}
use Rattle.std.proofs.lemmas.Option.{none-some, same_Some}
use Rattle.mir_base.specs.declared.int_kind.IntKind.{IntKind}
use Rattle.mir_base.specs.declared.place_in_text.Pos.{Pos}
use Rattle.mir_base.specs.declared.rule.Rule.{Rule}
use Rattle.mir_ty.specs.declared.ty.Ty.{Ty}
use Rattle.mir_ty.specs.declared.ty.TyId.{TyId}
use Rattle.mir_ty.specs.ItemTable.{ItemTable}
use Rattle.well_typed.specs.Types.{is_reference, reference_in}
use Rattle.typing_rules.specs.Check.{TypingState, interned}
use Rattle.typing_rules.specs.Places.{int, bool}
use Rattle.typing_rules.specs.Promises.{IsReady, IsAlone, AreReady, Gives}
use Rattle.typing_rules.specs.RowPromises.{IsMade}
use Rattle.src_ast.specs.Syntax.{Word, Syn, syn, AType, WrittenType, NamedType, GenericType, DynType, SelfType, ParensType, TupleType, ArrayType, NeverType, RefType, Syns, no_syn, a_syn}
use Rattle.typing_rules.specs.Written as rules
use Rattle.typing_rules.specs.Written.{WrittenScope}
use Rattle.typing_rules.proofs.Sound.Constructors.{tuple_made, array_made}
use Rattle.typing_rules.proofs.Sound.Gives.{bind, weaker, with_ready, given, gives_nothing, obeyed, found, grows_refl, grows_trans}
use Rattle.typing_rules.proofs.Sound.Interned.{interned_sound}
use Rattle.typing_rules.proofs.Sound.Later.{alone_later, alone_ready, alone_no_reference}
use Rattle.typing_rules.proofs.Sound.Named.{adt_made}
use Rattle.typing_rules.proofs.Sound.Operators.{unit_ready, bool_ready, never_ready, int_ready}

-- ---- scalars

among_alone : (items : ItemTable) (xs : List (Word × TyId)) → ((n : ℕ) (x : Word × TyId) → slice_get xs n ≡ Some x →
    IsAlone
    items x.1) → (name : Word) (ty : TyId) → rules.scalar_among xs name ≡ Some ty → IsAlone items ty
among_alone items [] each name ty h = absurd (none-some ty h)
among_alone items (x ∷ xs) each name ty h =
    by (among_alone items xs (λ n y is. each (suc n) y is) name ty) (bytes_eq x.0 name) h
  where
    by : (rules.scalar_among xs name ≡ Some ty → IsAlone items ty) → (b : Bool) → (if b then Some x.1 else
        rules.scalar_among xs name) ≡ Some ty → IsAlone items ty
    by on true h = subst (IsAlone items) (same_Some x.1 ty h) (each 0 x refl)
    by on false h = on h

abbrev names : List (Word × TyId)
names =
    (codes "i32", int IntKind.I32) ∷ (codes "i64", int IntKind.I64) ∷ (codes "u32", int IntKind.U32) ∷ (
      codes "u64",
      int
          IntKind.U64,
    ) ∷ (codes "usize", int IntKind.Usize) ∷ (codes "bool", bool) ∷ []

scalar_alone : (items : ItemTable) → AreReady items → (name : Word) (ty : TyId) → rules.scalar_named name ≡ Some ty →
    IsAlone
    items ty
scalar_alone items all name ty h = among_alone items names each name ty h
  where
    each : (n : ℕ) (x : Word × TyId) → slice_get names n ≡ Some x → IsAlone items x.1
    each zero x h = subst (λ (y : Word × TyId). IsAlone items y.1) (same_Some _ x h) (int_ready items all IntKind.I32)
    each (suc zero) x h = subst (λ (y : Word × TyId). IsAlone items y.1) (same_Some _ x h) (int_ready items all
        IntKind.I64)
    each (suc (suc zero)) x h =
        subst (λ (y : Word × TyId). IsAlone items y.1) (same_Some _ x h) (int_ready items all IntKind.U32)
    each (suc (suc (suc zero))) x h =
        subst (λ (y : Word × TyId). IsAlone items y.1) (same_Some _ x h) (int_ready items all IntKind.U64)
    each (suc (suc (suc (suc zero)))) x h =
        subst (λ (y : Word × TyId). IsAlone items y.1) (same_Some _ x h) (int_ready items all IntKind.Usize)
    each (suc (suc (suc (suc (suc zero))))) x h =
        subst (λ (y : Word × TyId). IsAlone items y.1) (same_Some _ x h) (bool_ready items all)
    each (suc (suc (suc (suc (suc (suc n)))))) x h = absurd (none-some x h)

-- ---- one type at a time

-- a type that is well made gets a number, and stands alone
adt_sound : (n : ℕ) (s : TypingState) → Gives s (λ w ty. IsAlone w.items ty) (interned (Ty.Adt n) s)
adt_sound n s =
    with_ready λ all. weaker (λ w ty. IsAlone w.items ty) (interned_sound (Ty.Adt n) s (adt_made s.items all n)) λ ty
    w ready g
    is. (Ty.Adt n, is, tt)

pub box_made : (items : ItemTable) (content : TyId) → IsReady items content → IsTrue (not (is_reference items content)) →
    IsMade
    items (Ty.Boxed content)
box_made items content ready plain =
    record {
      held = λ part has. absurd (omega (arith, has.1));
      parts = λ part variant n is. absurd (none-some part is);
      inside = λ to is. subst (λ t. IsReady items t × IsTrue (not (is_reference items t))) (same_Some content to is) (
        ready,
        plain,
      );
    }

box_sound : (content : TyId) (s : TypingState) → IsReady s.items content → IsTrue (not (is_reference s.items content)) →
    Gives s (λ w
    ty. IsAlone w.items ty) (interned (Ty.Boxed content) s)
box_sound content s ready plain =
    weaker (λ w ty. IsAlone w.items ty) (interned_sound (Ty.Boxed content) s (box_made s.items content ready plain)) λ
    ty w
    ready g is. (Ty.Boxed content, is, tt)

pub dyn_made : (items : ItemTable) (n : ℕ) → IsMade items (Ty.Dyn n)
dyn_made items n =
    record {
      held = λ part has. absurd (omega (arith, has.1));
      parts = λ part variant k is. absurd (none-some part is);
      inside = λ to is. absurd (none-some to is);
    }

abbrev pub AllAlone : List TyId → TypingState → Type 0
AllAlone tys w = (n : ℕ) (ty : TyId) → slice_get tys n ≡ Some ty → IsAlone w.items ty

tuple_by_sound : (tys : List TyId) (s : TypingState) → AllAlone tys s → Gives s (λ w ty. IsAlone w.items ty) (rules.tuple_by
    tys s)
tuple_by_sound [] s all = with_ready λ ready. given _ λ r w g. unit_ready w.items (g.ready ready)
tuple_by_sound (t ∷ tys) s all =
    weaker (λ w ty. IsAlone w.items ty) (interned_sound (Ty.Tuple (t ∷ tys)) s (tuple_made s.items (t ∷ tys) all)) λ
    ty w ready
    g is. (Ty.Tuple (t ∷ tys), is, tt)

pub both_alone : (ty : TyId) (tys : List TyId) (w : TypingState) → IsAlone w.items ty → AllAlone tys w → AllAlone (ty ∷ tys) w
both_alone ty tys w h all zero t is = subst (IsAlone w.items) (same_Some ty t is) h
both_alone ty tys w h all (suc n) t is = all n t is

named_sound : (at : Pos) (adt : Option ℕ) (scalar : Option TyId) (s : TypingState) → ((ty : TyId) → scalar ≡ Some ty → IsAlone
    s.items ty) → Gives s (λ w t. IsAlone w.items t) (rules.named_by at adt scalar s)
named_sound at adt (Some ty) s alone = given ty λ ready w g. alone_later g.items ty (alone ty refl)
named_sound at adt None s alone = found Rule.T01 at adt _ λ n h. adt_sound n s

-- ---- the recursion

module _ (around : WrittenScope) (limits : around.has_limits ≡ true) where
  mutual
    pub written_sound : (ty : Syn) (s : TypingState) → Gives s (λ w t. IsAlone w.items t) (rules.written around ty s)
    written_sound (syn at (AType t)) s = written_form_sound at t s
    written_sound (syn at _) s = gives_nothing Rule.T20 at

    written_form_sound : (at : Pos) (form : WrittenType) (s : TypingState) → Gives s (λ w t. IsAlone w.items t)
        (rules.written_form around at
        form s)
    written_form_sound at (NamedType name) s =
        with_ready λ all. named_sound at (rules.number_of around.adts name) (rules.scalar_named name) s (λ ty h.
        scalar_alone
        s.items all name ty h)
    written_form_sound at (GenericType name content) s =
        obeyed Rule.T01 at (rules.is_box name) _ λ is.
        bind (written_sound content s) λ ty t g d.
        let now = d t (grows_refl t) in
        box_sound ty t (alone_ready t.items ty now) (alone_no_reference t.items ty now)
    written_form_sound at (DynType name trait_) s =
        obeyed Rule.T01 at (rules.is_box name) _ λ is.
        found Rule.T01 trait_.0 (rules.number_of around.traits trait_.1) _ λ n h.
        bind (interned_sound (Ty.Dyn n) s (dyn_made s.items n)) λ ty t g d.
        let now = d t (grows_refl t) in
        box_sound ty t (Ty.Dyn n, now, tt) (subst (λ o. IsTrue (not (is_some (option_and_then reference_in o)))) (sym
        now) refl)
    written_form_sound at SelfType s = found Rule.T01 at around.self_adt _ λ n h. adt_sound n s
    written_form_sound at (ParensType inside) s = written_sound inside s
    written_form_sound at (TupleType parts) s =
        bind (all_written_sound parts s) λ tys t g d.
        bind (tuple_by_sound tys t (d t (grows_refl t))) λ ty u h e.
        obeyed Rule.T19 at (not around.has_limits || nat_le (length tys) 12) _ λ few.
        given ty λ ready w l. e w l
    written_form_sound at (ArrayType element count suffix) s =
        bind (written_sound element s) λ ty t g d.
        obeyed Rule.T03 at (not around.has_limits || rules.is_usize suffix) _ λ usize.
        obeyed Rule.T19 at (not around.has_limits || nat_le count 32) _ λ few.
        weaker (λ w x. IsAlone w.items x) (interned_sound (Ty.Array ty (rules.length_shown count)) t (array_made t.items ty (rules.length_shown count) (d t
        (grows_refl
        t)))) λ x w ready l is. (Ty.Array ty (rules.length_shown count), is, tt)
    written_form_sound at NeverType s = with_ready λ all. given _ λ r w g. never_ready w.items (g.ready all)
    written_form_sound at (RefType unique to) s =
        bind (written_sound to s) λ ty t g d.
        obeyed Rule.T08 at (not around.has_limits) _ λ no_limits.
        absurd (let no_ : IsTrue false = subst (λ b. IsTrue (not b)) limits no_limits in cc)

    all_written_sound : (parts : Syns) (s : TypingState) → Gives s (λ w tys. AllAlone tys w) (rules.all_written around parts
        s)
    all_written_sound no_syn s = given [] λ ready w g. λ n ty h. absurd (none-some ty h)
    all_written_sound (a_syn first rest) s =
        bind (written_sound first s) λ ty t g d.
        bind (all_written_sound rest t) λ tys u h e.
        given (ty ∷ tys) λ ready w l. both_alone ty tys w (d w (grows_trans h l)) (e w l)
