-- What a walk keeps: the types that are there, by their numbers, and the traits.
use Rattle.std.proofs.Common.{◌≡◌, ℕ, Bool, true, false, not, ◌||◌, nat_le, List, [], ◌∷◌, ◌++◌, length, slice_get, Option, Some, None, Result, Ok, Err, refl, ap, subst, ◌∙◌}
use Rattle.std.specs.List.{position as position_of}
use Rattle.mir_base.specs.declared.place_in_text.Pos.{Pos}
use Rattle.mir_base.specs.declared.rule.Rule.{Rule}
use Rattle.mir_ty.specs.declared.ty.Ty.{Ty}
use Rattle.mir_ty.specs.declared.ty.TyId.{TyId}
use Rattle.mir_ty.proofs.ListLemmas.{slice_get-append_left}
use Rattle.well_typed.specs.Items.{is_equal}
use Rattle.src_ast.specs.Syntax.{Receiver, ByValue, ByShared, ByUnique, Syn, syn, AType, AParam, WrittenType, NamedType, GenericType, DynType, SelfType, ParensType, TupleType, ArrayType, NeverType, RefType, ParamOf, SelfParam, Syns, no_syn, a_syn}
use Rattle.typing_rules.specs.Check.{Check, TypingState, Broken, and_then, ◌>>=◌, pure, breaks, obeys, known, interned, interned_at, each_checked}
use Rattle.typing_rules.specs.Collected.{receiver_ty, param_ty}
use Rattle.typing_rules.specs.Places.{unit, never}
use Rattle.typing_rules.specs.Written.{WrittenScope, written, written_form, all_written, named_by, number_of, scalar_named, tuple_by, is_box, is_usize, length_shown, reference_to, written_param, written_param_form}

pub record Keeps (s t : TypingState) : Type 0 where
  pub types : (k : ℕ) (ty : Ty) → slice_get s.items.types k ≡ Some ty → slice_get t.items.types k ≡ Some ty
  pub traits : t.items.traits ≡ s.items.traits

pub keeps_self : (s : TypingState) → Keeps s s
keeps_self s = record { types = λ k ty h. h; traits = refl }

pub keeps_on : (s t u : TypingState) → Keeps s t → Keeps t u → Keeps s u
keeps_on s t u h i = record { types = λ k ty is. i.types k ty (h.types k ty is); traits = i.traits ∙ h.traits }

abbrev pub Kept : {A : Type 0} → Check A → Type 0
Kept {A} p = (s t : TypingState) (a : A) → p s ≡ Ok (a, t) → Keeps s t

pub kept_bind : {A B : Type 0} (p : Check A) (f : A → Check B) → Kept p → ((a : A) → Kept (f a)) → Kept (p >>= f)
kept_bind {A} {B} p f first behind = λ s t b h. by s t b (p s) refl h
  where
    by : (s t : TypingState) (b : B) (o : Result (A × TypingState) Broken) → p s ≡ o → and_then o f ≡ Ok (b, t) → Keeps s t
    by s t b (Ok a) is h = keeps_on s a.1 t (first s a.1 a.0 is) (behind a.0 a.1 t b h)
    by s t b (Err e) is h = absurd (cc)

abbrev pub state_in : {A : Type 0} → TypingState → Result (A × TypingState) Broken → TypingState
state_in s (Ok a) = a.1
state_in s (Err e) = s

pub kept_pure : {A : Type 0} (a : A) → Kept (pure a)
kept_pure a = λ s t b h. let same : s ≡ t = ap (state_in s) h in subst (λ z. Keeps s z) same (keeps_self s)

pub kept_breaks : {A : Type 0} (rule : Rule) (at : Pos) → Kept (breaks {A = A} rule at)
kept_breaks rule at = λ s t b h. absurd (cc)

pub kept_obeys : (rule : Rule) (at : Pos) (holds : Bool) → Kept (obeys rule at holds)
kept_obeys rule at true = kept_pure tt
kept_obeys rule at false = kept_breaks rule at

pub kept_known : {A : Type 0} (rule : Rule) (at : Pos) (o : Option A) → Kept (known rule at o)
kept_known rule at None = kept_breaks rule at
kept_known rule at (Some a) = kept_pure a

pub kept_interned : (ty : Ty) → Kept (interned ty)
kept_interned ty = λ s t id h. by s t id (position_of (is_equal ty) s.items.types) h
  where
    by : (s t : TypingState) (id : TyId) (o : Option ℕ) → interned_at ty o s ≡ Ok (id, t) → Keeps s t
    by s t id (Some n) h = let same : s ≡ t = ap (state_in s) h in subst (λ z. Keeps s z) same (keeps_self s)
    by s t id None h =
        let same : record s { items = record (s.items) { types = s.items.types ++ ty ∷ [] } } ≡ t = ap (state_in s) h in
        subst (λ z. Keeps s z) same (record {
          types = λ k ty_ is. slice_get-append_left s.items.types (ty ∷ []) k ty_ is;
          traits = refl;
        })

pub kept_each : {A B : Type 0} (f : A → Check B) → ((a : A) → Kept (f a)) → (xs : List A) → Kept (each_checked f xs)
kept_each f each [] = kept_pure []
kept_each f each (x ∷ xs) =
    kept_bind (f x) (λ y. each_checked f xs >>= (λ ys. pure (y ∷ ys))) (each x)
    (λ y. kept_bind (each_checked f xs) (λ ys. pure (y ∷ ys)) (kept_each f each xs) (λ ys. kept_pure (y ∷ ys)))

-- ---- types

kept_named : (at : Pos) (adt : Option ℕ) (o : Option TyId) → Kept (named_by at adt o)
kept_named at adt (Some ty) = kept_pure ty
kept_named at adt None = kept_bind (known Rule.T01 at adt) _ (kept_known Rule.T01 at adt) (λ n. kept_interned (Ty.Adt n))

kept_tuple : (tys : List TyId) → Kept (tuple_by tys)
kept_tuple [] = kept_pure unit
kept_tuple (ty ∷ tys) = kept_interned (Ty.Tuple (ty ∷ tys))

module _ (w : WrittenScope) where
  mutual
    pub kept_written : (x : Syn) → Kept (written w x)
    kept_written (syn at (AType t)) = kept_form at t
    kept_written (syn at _) = kept_breaks Rule.T20 at

    kept_form : (at : Pos) (form : WrittenType) → Kept (written_form w at form)
    kept_form at (NamedType name) = kept_named at (number_of w.adts name) (scalar_named name)
    kept_form at (GenericType name content) =
        kept_bind (obeys Rule.T01 at (is_box name)) _ (kept_obeys Rule.T01 at (is_box name)) (λ _. kept_bind (written w content) _ (kept_written
        content) (λ ty. kept_interned (Ty.Boxed ty)))
    kept_form at (DynType name trait_) =
        kept_bind (obeys Rule.T01 at (is_box name)) _ (kept_obeys Rule.T01 at (is_box name)) (λ _. kept_bind (known Rule.T01 trait_.0 (number_of w.traits trait_.1)) _ (
        kept_known Rule.T01 trait_.0 (number_of w.traits trait_.1)) (λ n. kept_bind (interned (Ty.Dyn n)) _ (kept_interned (Ty.Dyn n)) (λ ty. kept_interned (Ty.Boxed ty))))
    kept_form at SelfType = kept_bind (known Rule.T01 at w.self_adt) _ (kept_known Rule.T01 at w.self_adt) (λ n. kept_interned (Ty.Adt n))
    kept_form at (ParensType inside) = kept_written inside
    kept_form at (TupleType parts) =
        kept_bind (all_written w parts) _ (kept_all parts) (λ tys. kept_bind (tuple_by tys) _ (kept_tuple tys) (λ ty. kept_bind (obeys Rule.T19 at (not w.has_limits || nat_le (length tys) 12)) _ (kept_obeys Rule.T19 at (not w.has_limits || nat_le (length tys) 12)) (λ _. kept_pure ty)))
    kept_form at (ArrayType element count suffix) =
        kept_bind (written w element) _ (kept_written element) (λ ty. kept_bind (obeys Rule.T03 at (not w.has_limits || is_usize suffix)) _ (kept_obeys Rule.T03 at (not w.has_limits || is_usize suffix)) (λ _. kept_bind (obeys Rule.T19 at (not w.has_limits || nat_le count 32)) _ (kept_obeys Rule.T19 at (not w.has_limits || nat_le count 32)) (λ _. kept_interned (Ty.Array ty (length_shown count)))))
    kept_form at NeverType = kept_pure never
    kept_form at (RefType unique to) =
        kept_bind (written w to) _ (kept_written to) (λ ty. kept_bind (obeys Rule.T08 at (not w.has_limits)) _ (kept_obeys Rule.T08 at (not w.has_limits)) (λ _. kept_interned (reference_to unique ty)))

    kept_all : (parts : Syns) → Kept (all_written w parts)
    kept_all no_syn = kept_pure []
    kept_all (a_syn first rest) =
        kept_bind (written w first) _ (kept_written first) (λ ty. kept_bind (all_written w rest) _ (kept_all rest) (λ tys. kept_pure (ty ∷ tys)))

  mutual
    pub kept_param : (x : Syn) → Kept (written_param w x)
    kept_param (syn at (AType t)) = kept_param_form at t
    kept_param (syn at _) = kept_breaks Rule.T20 at

    kept_param_form : (at : Pos) (form : WrittenType) → Kept (written_param_form w at form)
    kept_param_form at (ParensType inside) = kept_param inside
    kept_param_form at (RefType unique to) = kept_bind (written w to) _ (kept_written to) (λ ty. kept_interned (reference_to unique ty))
    kept_param_form at form = kept_form at form

-- ---- heads

pub kept_receiver : (own : TyId) (receiver : Receiver) → Kept (receiver_ty own receiver)
kept_receiver own ByValue = kept_pure own
kept_receiver own ByShared = kept_interned (Ty.Shared own)
kept_receiver own ByUnique = kept_interned (Ty.Unique own)

module _ (w : WrittenScope) (self : Check TyId) (kept_self : Kept self) where
  pub kept_head_param : (x : Syn) → Kept (param_ty w self x)
  kept_head_param (syn at (AParam (ParamOf p ty))) = kept_param w ty
  kept_head_param (syn at (AParam (SelfParam receiver))) = kept_bind self _ kept_self (λ own. kept_receiver own receiver)
  kept_head_param (syn at _) = kept_breaks Rule.T20 at
