-- A type that is written has one number, wherever it is written.
use Rattle.std.specs.Prelude.{◌≡◌, ℕ, Bool, List, [], ◌∷◌, Option, Some, None, Ok, slice_get, IsTrue}
use Rattle.mir_ty.specs.declared.ty.Ty.{Ty}
use Rattle.mir_ty.specs.declared.ty.TyId.{TyId}
use Rattle.mir_ty.specs.AreItems.{AreDistinct}
use Rattle.mir_ty.specs.ItemTable.{ItemTable, type_at}
use Rattle.typing_rules.specs.Check.{TypingState}
use Rattle.typing_rules.specs.Places.{unit, never}
use Rattle.typing_rules.specs.Written.{WrittenScope, written, written_param, number_of, scalar_named, is_box, length_shown, reference_to}
use Rattle.src_ast.specs.Syntax.{Syn, syn, AType, WrittenType, NamedType, GenericType, DynType, SelfType, ParensType, TupleType, ArrayType, NeverType, RefType, Syns, no_syn, a_syn}

-- later items have the types of earlier ones
abbrev pub HaveTypes : ItemTable → ItemTable → Type 0
HaveTypes old new = (n : ℕ) (ty : Ty) → slice_get old.types n ≡ Some ty → slice_get new.types n ≡ Some ty

-- The same type, written by all rules or by those on names alone, in one state and again in a later one, has one
-- number: so have the types of a head and those of its body.
abbrev pub OneNumber : Type 0
OneNumber = (around : WrittenScope) (limits : Bool) (e : Syn) (s u : TypingState) (first second : TyId × TypingState) →
    written around e s
    ≡ Ok first → written (record around { has_limits = limits }) e u ≡ Ok second → HaveTypes first.1.items u.items →
    AreDistinct second.1.items.types → first.0 ≡ second.0

-- and so has the type of a parameter
abbrev pub OneParamNumber : Type 0
OneParamNumber = (around : WrittenScope) (limits : Bool) (e : Syn) (s u : TypingState)
    (first second : TyId × TypingState) → written_param
    around e s ≡ Ok first → written_param (record around { has_limits = limits }) e u ≡ Ok second → HaveTypes
    first.1.items u.items → AreDistinct second.1.items.types → first.0 ≡ second.0

-- ---- what a type means, apart from rules and states

abbrev pub NamesTy : ItemTable → Option ℕ → Option TyId → TyId → Type 0
NamesTy items adt (Some scalar) ty = scalar ≡ ty
NamesTy items None None ty = ⊥
NamesTy items (Some n) None ty = type_at items ty ≡ Some (Ty.Adt n)

abbrev pub IsTupleOf : ItemTable → List TyId → TyId → Type 0
IsTupleOf items [] ty = unit ≡ ty
IsTupleOf items (t ∷ ts) ty = type_at items ty ≡ Some (Ty.Tuple (t ∷ ts))

module _ (around : WrittenScope) where
  abbrev mutual
    pub Means : ItemTable → Syn → TyId → Type 0
    Means items (syn at (AType t)) ty = MeansForm items t ty
    Means items _ ty = ⊥

    pub MeansForm : ItemTable → WrittenType → TyId → Type 0
    MeansForm items (NamedType name) ty =
        NamesTy items (number_of around.adts name) (scalar_named name) ty
    MeansForm items (GenericType name content) ty =
        (inside : TyId) × Means items content inside × (type_at items ty ≡ Some (Ty.Boxed inside)) ×
        IsTrue (is_box name)
    MeansForm items (DynType name trait_) ty =
        (n : ℕ) × (inside : TyId) × (number_of around.traits trait_.1 ≡ Some n) × (type_at items inside ≡ Some
        (Ty.Dyn n)) × (type_at items ty ≡ Some (Ty.Boxed inside)) × IsTrue (is_box name)
    MeansForm items SelfType ty = (n : ℕ) × (around.self_adt ≡ Some n) × (type_at items ty ≡ Some (Ty.Adt n))
    MeansForm items (ParensType inside) ty = Means items inside ty
    MeansForm items (TupleType parts) ty = (tys : List TyId) × MeanAll items parts tys × IsTupleOf items tys ty
    MeansForm items (ArrayType element count suffix) ty =
        (part : TyId) × Means items element part × (type_at items ty ≡ Some (Ty.Array part (length_shown count)))
    MeansForm items NeverType ty = never ≡ ty
    MeansForm items (RefType unique to) ty =
        (inside : TyId) × Means items to inside × (type_at items ty ≡ Some (reference_to unique inside))

    pub MeanAll : ItemTable → Syns → List TyId → Type 0
    MeanAll items no_syn [] = Unit {0}
    MeanAll items no_syn (ty ∷ tys) = ⊥
    MeanAll items (a_syn first rest) [] = ⊥
    MeanAll items (a_syn first rest) (ty ∷ tys) = Means items first ty × MeanAll items rest tys
