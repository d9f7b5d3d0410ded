-- The walk over a type looks at the items alone, and adds types alone.
use Rattle.std.proofs.Common.{◌≡◌, ℕ, Bool, true, false, List, [], ◌∷◌, ◌||◌, not, length, nat_le, Option, Some, None, Result, Ok, Err, refl, ap, sym, subst, ◌∙◌}
use Rattle.std.specs.List.{position as position_of}
use Rattle.mir_base.specs.declared.place_in_text.Pos.{Pos}
use Rattle.mir_base.specs.declared.rule.Rule.{Rule}
use Rattle.mir_base.specs.declared.rule.RuleError.{RuleError}
use Rattle.typeck_heads.specs.Answers.{Refuses}
use Rattle.mir_ty.specs.ItemTable.{ItemTable}
use Rattle.mir_ty.specs.declared.ty.Ty.{Ty}
use Rattle.mir_ty.specs.declared.ty.TyId.{TyId}
use Rattle.src_ast.specs.Syntax.{Syn, syn, AType, WrittenType, NamedType, GenericType, DynType, SelfType, ParensType, TupleType, ArrayType, NeverType, RefType, Syns, no_syn, a_syn}
use Rattle.typeck_env.specs.Walked.{HasOnlyTypes}
use Rattle.typeck_heads.specs.Forms.{written_by}
use Rattle.typing_rules.specs.Check.{Check, TypingState, Broken, and_then, ◌>>=◌, pure, breaks, obeys, known, interned, interned_at}
use Rattle.typing_rules.specs.Collected.{starting_with}
use Rattle.typing_rules.specs.Places.{never, unit}
use Rattle.typing_rules.specs.Written.{WrittenScope, all_written, is_box, is_usize, length_shown, named_by, number_of, reference_to, scalar_named, tuple_by, written, written_form, written_param, written_param_form}
use Rattle.well_typed.specs.Items.{is_equal}
use Rattle.typeck_checker.specs.Local.{lifted, Fixed, IsLocal}

fixed_self : (items : ItemTable) → HasOnlyTypes items items
fixed_self items = (refl, refl, refl, refl)

fixed_through : (a b c : ItemTable) → HasOnlyTypes a b → HasOnlyTypes b c → HasOnlyTypes a c
fixed_through a b c h k = (k.0 ∙ h.0, k.1 ∙ h.1, k.2 ∙ h.2, k.3 ∙ h.3)

-- ---- steps

pure_local : {A : Type 0} (a : A) → IsLocal (pure a)
pure_local a s = (refl, (refl, fixed_self s.items))

breaks_local : {A : Type 0} (rule : Rule) (at : Pos) → IsLocal (breaks {A = A} rule at)
breaks_local rule at s = (refl, tt)

obeys_local : (rule : Rule) (at : Pos) (b : Bool) → IsLocal (obeys rule at b)
obeys_local rule at true = pure_local tt
obeys_local rule at false = breaks_local rule at

known_local : {A : Type 0} (rule : Rule) (at : Pos) (o : Option A) → IsLocal (known rule at o)
known_local rule at None = breaks_local rule at
known_local rule at (Some a) = pure_local a

interned_by : (ty : Ty) (o : Option ℕ) (s : TypingState) →
    (interned_at ty o s ≡ lifted s (interned_at ty o (starting_with s.items))) × Fixed s.items (interned_at ty o (starting_with s.items))
interned_by ty (Some n) s = (refl, (refl, fixed_self s.items))
interned_by ty None s = (refl, (refl, (refl, refl, refl, refl)))

interned_local : (ty : Ty) → IsLocal (interned ty)
interned_local ty s = interned_by ty (position_of (is_equal ty) s.items.types) s

module _ {A B : Type 0} where
  later : (f : A → Check B) (s : TypingState) (a : A) (t : TypingState) → t ≡ starting_with t.items → HasOnlyTypes s.items t.items → IsLocal (f a) →
      (f a (record s { items = t.items }) ≡ lifted s (f a t)) × Fixed s.items (f a t)
  later f s a t start same h =
      let one = h (record s { items = t.items }) in
      (one.0 ∙ ap (λ u. lifted s (f a u)) (sym start), fixed_later (f a t) (subst (λ u. Fixed t.items (f a u)) (sym start) one.1))
    where
      fixed_later : (o : Result (B × TypingState) Broken) → Fixed t.items o → Fixed s.items o
      fixed_later (Ok p) k = (k.0, fixed_through s.items t.items p.1.items same k.1)
      fixed_later (Err e) k = tt

  bind_by : (p o : Result (A × TypingState) Broken) (f : A → Check B) (s : TypingState) → p ≡ lifted s o → Fixed s.items o → ((a : A) → IsLocal (f a)) →
      (and_then p f ≡ lifted s (and_then o f)) × Fixed s.items (and_then o f)
  bind_by p (Ok q) f s is same h =
      let next = later f s q.0 q.1 same.0 same.1 (h q.0) in
      (ap (λ r. and_then r f) is ∙ next.0, next.1)
  bind_by p (Err e) f s is same h = (ap (λ r. and_then r f) is, tt)

  bind_local : (p : Check A) (f : A → Check B) → IsLocal p → ((a : A) → IsLocal (f a)) → IsLocal (p >>= f)
  bind_local p f h k s = bind_by (p s) (p (starting_with s.items)) f s (h s).0 (h s).1 k

-- ---- what a call answers that begins with the items alone

module _ {A : Type 0} (check : Check A) (is_local : IsLocal check) (s : TypingState) where
  pub gives_here : (a : A) (after : ItemTable) → check (starting_with s.items) ≡ Ok (a, starting_with after) →
      check s ≡ Ok (a, record s { items = after })
  gives_here a after h = (is_local s).0 ∙ ap (lifted s) h

  pub refuses_here : (e : RuleError) → Refuses (check (starting_with s.items)) e → Refuses (check s) e
  refuses_here (RuleError.Broken rule at) h = (is_local s).0 ∙ ap (lifted s) h
  refuses_here RuleError.Memory h = tt

  pub fixed_here : (a : A) (after : ItemTable) → check (starting_with s.items) ≡ Ok (a, starting_with after) → HasOnlyTypes s.items after
  fixed_here a after h = (subst (λ (o : Result (A × TypingState) Broken). Fixed s.items o) h (is_local s).1).1

-- ---- types

named_local : (at : Pos) (adt : Option ℕ) (o : Option TyId) → IsLocal (named_by at adt o)
named_local at adt (Some ty) = pure_local ty
named_local at adt None = bind_local (known Rule.T01 at adt) (λ n. interned (Ty.Adt n)) (known_local Rule.T01 at adt) (λ n. interned_local (Ty.Adt n))

tuple_local : (tys : List TyId) → IsLocal (tuple_by tys)
tuple_local [] = pure_local unit
tuple_local (ty ∷ tys) = interned_local (Ty.Tuple (ty ∷ tys))

boxed_local : (ty : TyId) → IsLocal (interned (Ty.Boxed ty))
boxed_local ty = interned_local (Ty.Boxed ty)

mutual
  pub written_local : (w : WrittenScope) (x : Syn) → IsLocal (written w x)
  written_local w (syn at (AType t)) = form_local w at t
  written_local w (syn at _) = breaks_local Rule.T20 at

  form_local : (w : WrittenScope) (at : Pos) (form : WrittenType) → IsLocal (written_form w at form)
  form_local w at (NamedType a) = named_local at (number_of w.adts a) (scalar_named a)
  form_local w at (GenericType a b) = bind_local (obeys Rule.T01 at (is_box a)) (λ _. written w b >>= (λ ty. interned (Ty.Boxed ty))) (obeys_local Rule.T01 at (is_box a))
      (λ _. bind_local (written w b) (λ ty. interned (Ty.Boxed ty)) (written_local w b) boxed_local)
  form_local w at (DynType a b) = bind_local (obeys Rule.T01 at (is_box a)) (λ _. known Rule.T01 b.0 (number_of w.traits b.1) >>= (λ n. interned (Ty.Dyn n) >>= (λ ty. interned (Ty.Boxed ty)))) (obeys_local Rule.T01 at (is_box a))
      (λ _. bind_local (known Rule.T01 b.0 (number_of w.traits b.1)) (λ n. interned (Ty.Dyn n) >>= (λ ty. interned (Ty.Boxed ty))) (known_local Rule.T01 b.0 (number_of w.traits b.1))
      (λ n. bind_local (interned (Ty.Dyn n)) (λ ty. interned (Ty.Boxed ty)) (interned_local (Ty.Dyn n)) boxed_local))
  form_local w at SelfType = bind_local (known Rule.T01 at w.self_adt) (λ n. interned (Ty.Adt n)) (known_local Rule.T01 at w.self_adt) (λ n. interned_local (Ty.Adt n))
  form_local w at (ParensType a) = written_local w a
  form_local w at (TupleType a) = bind_local (all_written w a) (λ tys. tuple_by tys >>= (λ ty. obeys Rule.T19 at (not w.has_limits || nat_le (length tys) 12) >>= (λ _. pure ty))) (all_local w a)
      (λ tys. bind_local (tuple_by tys) (λ ty. obeys Rule.T19 at (not w.has_limits || nat_le (length tys) 12) >>= (λ _. pure ty)) (tuple_local tys)
      (λ ty. bind_local (obeys Rule.T19 at (not w.has_limits || nat_le (length tys) 12)) (λ _. pure ty) (obeys_local Rule.T19 at (not w.has_limits || nat_le (length tys) 12)) (λ _. pure_local ty)))
  form_local w at (ArrayType a b c) = bind_local (written w a) (λ ty. obeys Rule.T03 at (not w.has_limits || is_usize c) >>= (λ _. obeys Rule.T19 at (not w.has_limits || nat_le b 32) >>= (λ _. interned (Ty.Array ty (length_shown b))))) (written_local w a)
      (λ ty. bind_local (obeys Rule.T03 at (not w.has_limits || is_usize c)) (λ _. obeys Rule.T19 at (not w.has_limits || nat_le b 32) >>= (λ _. interned (Ty.Array ty (length_shown b)))) (obeys_local Rule.T03 at (not w.has_limits || is_usize c))
      (λ _. bind_local (obeys Rule.T19 at (not w.has_limits || nat_le b 32)) (λ _. interned (Ty.Array ty (length_shown b))) (obeys_local Rule.T19 at (not w.has_limits || nat_le b 32)) (λ _. interned_local (Ty.Array ty (length_shown b)))))
  form_local w at NeverType = pure_local never
  form_local w at (RefType a b) = bind_local (written w b) (λ ty. obeys Rule.T08 at (not w.has_limits) >>= (λ _. interned (reference_to a ty))) (written_local w b)
      (λ ty. bind_local (obeys Rule.T08 at (not w.has_limits)) (λ _. interned (reference_to a ty)) (obeys_local Rule.T08 at (not w.has_limits)) (λ _. interned_local (reference_to a ty)))

  all_local : (w : WrittenScope) (xs : Syns) → IsLocal (all_written w xs)
  all_local w no_syn = pure_local []
  all_local w (a_syn first rest) =
      bind_local (written w first) (λ ty. all_written w rest >>= (λ tys. pure (ty ∷ tys))) (written_local w first)
      (λ ty. bind_local (all_written w rest) (λ tys. pure (ty ∷ tys)) (all_local w rest) (λ tys. pure_local (ty ∷ tys)))

mutual
  pub param_local : (w : WrittenScope) (x : Syn) → IsLocal (written_param w x)
  param_local w (syn at (AType t)) = param_form_local w at t
  param_local w (syn at _) = breaks_local Rule.T20 at

  param_form_local : (w : WrittenScope) (at : Pos) (form : WrittenType) → IsLocal (written_param_form w at form)
  param_form_local w at (ParensType a) = param_local w a
  param_form_local w at (RefType a b) = bind_local (written w b) (λ ty. interned (reference_to a ty)) (written_local w b) (λ ty. interned_local (reference_to a ty))
  param_form_local w at t = form_local w at t

-- a type as it is written, or that of a parameter
pub local_as : (is_param : Bool) (w : WrittenScope) (x : Syn) → IsLocal (written_by is_param w x)
local_as true w x = param_local w x
local_as false w x = written_local w x
