-- Whether the names in a type are known tells whether it is refused, where no limit is asked of it.
use Rattle.std.proofs.Common.{◌≡◌, ℕ, Bool, true, false, not, ◌&&◌, ◌||◌, nat_le, length, List, [], ◌∷◌, Option, Some, None, Result, Ok, Err, refl, ap, sym, subst, ◌∙◌}
use Rattle.std.specs.Prelude.{is_some}
use Rattle.std.specs.List.{position as position_of}
use Rattle.mir_base.specs.declared.place_in_text.Pos.{Pos}
use Rattle.mir_base.specs.declared.rule.Rule.{Rule}
use Rattle.mir_ty.specs.declared.ty.Ty.{Ty}
use Rattle.mir_ty.specs.declared.ty.TyId.{TyId}
use Rattle.well_typed.specs.Items.{is_equal}
use Rattle.src_tree.specs.declared.node.SyntaxNode.{SyntaxNode}
use Rattle.src_ast.specs.Seen.{syn_of}
use Rattle.src_ast.specs.Sorts.{type_part}
use Rattle.src_ast.specs.Types.{type_of}
use Rattle.src_ast.specs.declared.ty.TypeForm.{TypeForm}
use Rattle.src_ast.specs.Syntax.{Syn, syn, shape_of, AType, WrittenType, NamedType, GenericType, DynType, SelfType, ParensType, TupleType, ArrayType, NeverType, RefType, Syns, no_syn, a_syn}
use Rattle.typing_rules.specs.Check.{Check, TypingState, Broken, and_then, obeys, known, interned, interned_at}
use Rattle.typing_rules.specs.Places.{unit}
use Rattle.typing_rules.specs.Written.{WrittenScope, written, written_form, all_written, named_by, number_of, scalar_named, tuple_by, is_box, is_usize, length_shown, reference_to, or_unit_in, or_unit}
use Rattle.typeck_heads.specs.Standing.{stands, form_stands, all_stand, stands_as}

stands_seen_as : (w : WrittenScope) (x : Syn) → stands w x ≡ stands_as w (type_part (shape_of x))
stands_seen_as w (syn at (AType (NamedType a))) = refl
stands_seen_as w (syn at _) = refl

pub stands_seen : (w : WrittenScope) (n : SyntaxNode) → stands w (syn_of n) ≡ stands_as w (type_part (shape_of (syn_of n)))
stands_seen w n = stands_seen_as w (syn_of n)

-- what a form says is what its node says
pub stands_as_seen : (w : WrittenScope) (n : SyntaxNode) (b : Bool) (seen form : TypeForm) → seen ≡ form →
    type_of seen ≡ type_part (shape_of (syn_of n)) → b ≡ stands_as w (type_of form) → b ≡ stands w (syn_of n)
stands_as_seen w n b seen form is is_seen is_b =
    is_b ∙ ap (λ f. stands_as w (type_of f)) (sym is) ∙ ap (stands_as w) is_seen ∙ sym (stands_seen w n)

-- a test that is true exactly where a walk gives something
abbrev Tells : {A : Type 0} → Bool → Result (A × TypingState) Broken → Type 0
Tells b (Ok a) = b ≡ true
Tells b (Err e) = b ≡ false

both : {A B : Type 0} (b c : Bool) (o : Result (A × TypingState) Broken) (f : A → Check B) → Tells b o →
    ((a : A) (t : TypingState) → Tells c (f a t)) → Tells (b && c) (and_then o f)
both b c (Ok a) f h behind = subst (λ z. Tells (z && c) (f a.0 a.1)) (sym h) (behind a.0 a.1)
both b c (Err e) f h behind = ap (λ z. z && c) h

-- the first part alone tells
only : {A B : Type 0} (b : Bool) (o : Result (A × TypingState) Broken) (f : A → Check B) → Tells b o →
    ((a : A) (t : TypingState) → Tells true (f a t)) → Tells b (and_then o f)
only b (Ok a) f h behind = subst (λ z. Tells z (f a.0 a.1)) (sym h) (behind a.0 a.1)
only b (Err e) f h behind = h

told_obeys : (rule : Rule) (at : Pos) (b : Bool) (s : TypingState) → Tells b (obeys rule at b s)
told_obeys rule at true s = refl
told_obeys rule at false s = refl

told_known : {A : Type 0} (rule : Rule) (at : Pos) (o : Option A) (s : TypingState) → Tells (is_some o) (known rule at o s)
told_known rule at None s = refl
told_known rule at (Some a) s = refl

told_interned : (ty : Ty) (s : TypingState) → Tells true (interned ty s)
told_interned ty s = by (position_of (is_equal ty) s.items.types)
  where
    by : (o : Option ℕ) → Tells true (interned_at ty o s)
    by None = refl
    by (Some n) = refl

told_tuple : (tys : List TyId) (s : TypingState) → Tells true (tuple_by tys s)
told_tuple [] s = refl
told_tuple (ty ∷ tys) s = told_interned (Ty.Tuple (ty ∷ tys)) s

told_named : (at : Pos) (adt : Option ℕ) (o : Option TyId) (s : TypingState) → Tells (is_some o || is_some adt) (named_by at adt o s)
told_named at adt (Some ty) s = refl
told_named at adt None s = only (is_some adt) (known Rule.T01 at adt s) _ (told_known Rule.T01 at adt s) (λ n t. told_interned (Ty.Adt n) t)

module _ (w : WrittenScope) (free : w.has_limits ≡ false) where
  told_free : (rule : Rule) (at : Pos) (b : Bool) (s : TypingState) → Tells true (obeys rule at (not w.has_limits || b) s)
  told_free rule at b s = subst (λ z. Tells true (obeys rule at (not z || b) s)) (sym free) refl

  told_no_limits : (rule : Rule) (at : Pos) (s : TypingState) → Tells true (obeys rule at (not w.has_limits) s)
  told_no_limits rule at s = subst (λ z. Tells true (obeys rule at (not z) s)) (sym free) refl

  mutual
    told : (x : Syn) (s : TypingState) → Tells (stands w x) (written w x s)
    told (syn at (AType t)) s = told_form at t s
    told _ s = refl

    told_form : (at : Pos) (form : WrittenType) (s : TypingState) → Tells (form_stands w form) (written_form w at form s)
    told_form at (NamedType name) s = told_named at (number_of w.adts name) (scalar_named name) s
    told_form at (GenericType name content) s =
        both (is_box name) (stands w content) (obeys Rule.T01 at (is_box name) s) _ (told_obeys Rule.T01 at (is_box name) s) (λ _ t.
        only (stands w content) (written w content t) _ (told content t) (λ ty u. told_interned (Ty.Boxed ty) u))
    told_form at (DynType name trait_) s =
        both (is_box name) (is_some (number_of w.traits trait_.1)) (obeys Rule.T01 at (is_box name) s) _ (told_obeys Rule.T01 at (is_box name) s) (λ _ t.
        only (is_some (number_of w.traits trait_.1)) (known Rule.T01 trait_.0 (number_of w.traits trait_.1) t) _ (told_known Rule.T01 trait_.0 (number_of w.traits trait_.1) t) (λ n u.
        only true (interned (Ty.Dyn n) u) _ (told_interned (Ty.Dyn n) u) (λ ty v. told_interned (Ty.Boxed ty) v)))
    told_form at SelfType s =
        only (is_some w.self_adt) (known Rule.T01 at w.self_adt s) _ (told_known Rule.T01 at w.self_adt s) (λ n t. told_interned (Ty.Adt n) t)
    told_form at (ParensType inside) s = told inside s
    told_form at (TupleType parts) s =
        only (all_stand w parts) (all_written w parts s) _ (told_all parts s) (λ tys t.
        only true (tuple_by tys t) _ (told_tuple tys t) (λ ty u.
        only true (obeys Rule.T19 at (not w.has_limits || nat_le (length tys) 12) u) _ (told_free Rule.T19 at (nat_le (length tys) 12) u) (λ _ v. refl)))
    told_form at (ArrayType element count suffix) s =
        only (stands w element) (written w element s) _ (told element s) (λ ty t.
        only true (obeys Rule.T03 at (not w.has_limits || is_usize suffix) t) _ (told_free Rule.T03 at (is_usize suffix) t) (λ _ u.
        only true (obeys Rule.T19 at (not w.has_limits || nat_le count 32) u) _ (told_free Rule.T19 at (nat_le count 32) u) (λ _ v.
        told_interned (Ty.Array ty (length_shown count)) v)))
    told_form at NeverType s = refl
    told_form at (RefType unique to) s =
        only (stands w to) (written w to s) _ (told to s) (λ ty t.
        only true (obeys Rule.T08 at (not w.has_limits) t) _ (told_no_limits Rule.T08 at t) (λ _ u. told_interned (reference_to unique ty) u))

    told_all : (parts : Syns) (s : TypingState) → Tells (all_stand w parts) (all_written w parts s)
    told_all no_syn s = refl
    told_all (a_syn first rest) s =
        both (stands w first) (all_stand w rest) (written w first s) _ (told first s) (λ ty t.
        only (all_stand w rest) (all_written w rest t) _ (told_all rest t) (λ tys u. refl))

  given : (o : Result (TyId × TypingState) Broken) (s : TypingState) (b : Bool) → Tells b o → b ≡ true → or_unit_in s o ≡ o
  given (Ok a) s b h is = refl
  given (Err e) s b h is = absurd (cc)

  refused : (o : Result (TyId × TypingState) Broken) (s : TypingState) (b : Bool) → Tells b o → b ≡ false → or_unit_in s o ≡ Ok (unit, s)
  refused (Ok a) s b h is = absurd (cc)
  refused (Err e) s b h is = refl

-- a type whose names are known is itself; another one is `()`
pub stood : (w : WrittenScope) (x : Syn) (s : TypingState) → w.has_limits ≡ false → stands w x ≡ true → or_unit (written w x) s ≡ written w x s
stood w x s free h = given w free (written w x s) s (stands w x) (told w free x s) h

pub fallen : (w : WrittenScope) (x : Syn) (s : TypingState) → w.has_limits ≡ false → stands w x ≡ false → or_unit (written w x) s ≡ Ok (unit, s)
fallen w x s free h = refused w free (written w x s) s (stands w x) (told w free x s) h
