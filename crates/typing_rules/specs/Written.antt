-- Types as they are written (The Rust Reference, "Types").
use Rattle.std.specs.Prelude.{ℕ, Bool, true, false, ◌||◌, not, List, [], ◌∷◌, length, min, nat_le, Option, Some, None, if◌then◌else◌, codes, Result, Ok, Err}
use Rattle.std.specs.List.{position as position_of}
use Rattle.std.specs.Str.{bytes_eq}
use Rattle.mir_base.specs.declared.int_kind.IntKind.{IntKind}
use Rattle.mir_base.specs.declared.place_in_text.Pos.{Pos}
use Rattle.mir_base.specs.declared.rule.Rule.{Rule}
use Rattle.mir_ty.specs.declared.ty.Ty.{Ty}
use Rattle.mir_ty.specs.declared.ty.TyId.{TyId}
use Rattle.typing_rules.specs.Check.{Check, TypingState, Broken, ◌>>=◌, ◌>>◌, pure, breaks, obeys, known, interned}
use Rattle.typing_rules.specs.Places.{unit, bool, never, int}
use Rattle.src_ast.specs.Syntax.{Word, Syn, syn, AType, WrittenType, NamedType, GenericType, DynType, SelfType, ParensType, TupleType, ArrayType, NeverType, RefType, Syns, no_syn, a_syn}

abbrev pub scalar_among : List (Word × TyId) → Word → Option TyId
scalar_among [] name = None
scalar_among (x ∷ xs) name = if bytes_eq x.0 name then Some x.1 else scalar_among xs name

abbrev pub scalar_named : Word → Option TyId
scalar_named = scalar_among ((codes "i32", int IntKind.I32) ∷ (codes "i64", int IntKind.I64) ∷
    (codes "u32", int IntKind.U32) ∷ (codes "u64", int IntKind.U64) ∷ (codes "usize", int IntKind.Usize) ∷
    (codes "bool", bool) ∷ [])

abbrev pub is_box : Word → Bool
is_box name = bytes_eq name (codes "Box")

abbrev pub named_by : Pos → Option ℕ → Option TyId → Check TyId
named_by at adt (Some ty) = pure ty
named_by at adt None = do
  n ← known Rule.T01 at adt
  interned (Ty.Adt n)

abbrev pub tuple_by : List TyId → Check TyId
tuple_by [] = pure unit
tuple_by (ty ∷ tys) = interned (Ty.Tuple (ty ∷ tys))

abbrev pub is_usize : Option IntKind → Bool
is_usize None = true
is_usize (Some IntKind.Usize) = true
is_usize (Some _) = false

-- a length that no number of 32 bits can have stands as the greatest of them, where it is not refused
abbrev pub length_shown : ℕ → ℕ
length_shown count = min count 4294967295

abbrev pub reference_to : Bool → TyId → Ty
reference_to unique to = if unique then Ty.Unique to else Ty.Shared to

-- All rules, or those on names alone; the struct or enum that `Self` is; the names of structs and enums, and of traits.
pub record WrittenScope : Type 0 where
  pub has_limits : Bool
  pub self_adt : Option ℕ
  pub adts : List Word
  pub traits : List Word

abbrev pub number_of : List Word → Word → Option ℕ
number_of names name = position_of (bytes_eq name) names

module _ (around : WrittenScope) where
  abbrev mutual
    pub written : Syn → Check TyId
    written (syn at (AType t)) = written_form at t
    written (syn at _) = breaks Rule.T20 at

    pub written_form : Pos → WrittenType → Check TyId
    written_form at (NamedType name) = named_by at (number_of around.adts name) (scalar_named name)
    written_form at (GenericType name content) = do
      obeys Rule.T01 at (is_box name)
      ty ← written content
      interned (Ty.Boxed ty)
    written_form at (DynType name trait_) = do
      obeys Rule.T01 at (is_box name)
      n ← known Rule.T01 trait_.0 (number_of around.traits trait_.1)
      ty ← interned (Ty.Dyn n)
      interned (Ty.Boxed ty)
    written_form at SelfType = do
      n ← known Rule.T01 at around.self_adt
      interned (Ty.Adt n)
    written_form at (ParensType inside) = written inside
    written_form at (TupleType parts) = do
      tys ← all_written parts
      ty ← tuple_by tys
      obeys Rule.T19 at (not around.has_limits || nat_le (length tys) 12)
      pure ty
    written_form at (ArrayType element count suffix) = do
      ty ← written element
      obeys Rule.T03 at (not around.has_limits || is_usize suffix)
      obeys Rule.T19 at (not around.has_limits || nat_le count 32)
      interned (Ty.Array ty (length_shown count))
    written_form at NeverType = pure never
    written_form at (RefType unique to) = do
      ty ← written to
      obeys Rule.T08 at (not around.has_limits)
      interned (reference_to unique ty)

    pub all_written : Syns → Check (List TyId)
    all_written no_syn = pure []
    all_written (a_syn first rest) = do
      ty ← written first
      tys ← all_written rest
      pure (ty ∷ tys)

  -- the type of a parameter may be a reference
  abbrev mutual
    pub written_param : Syn → Check TyId
    written_param (syn at (AType t)) = written_param_form at t
    written_param (syn at _) = breaks Rule.T20 at

    pub written_param_form : Pos → WrittenType → Check TyId
    written_param_form at (ParensType inside) = written_param inside
    written_param_form at (RefType unique to) = do
      ty ← written to
      interned (reference_to unique ty)
    written_param_form at t = written_form at t

-- a type that breaks a rule stands as `()`
abbrev pub or_unit_in : TypingState → Result (TyId × TypingState) Broken → Result (TyId × TypingState) Broken
or_unit_in s (Ok a) = Ok a
or_unit_in s (Err e) = Ok (unit, s)

abbrev pub or_unit : Check TyId → Check TyId
or_unit check = λ s. or_unit_in s (check s)
