-- The heads that are collected for the bodies of a text, before any body is looked at.
use Rattle.std.specs.Prelude.{◌≡◌, ℕ, true, false, List, [], ◌∷◌, length, Option, Some, codes, option_and_then, slice_get}
use Rattle.mir_ty.specs.declared.adt.Adt.{Adt}
use Rattle.mir_ty.specs.declared.adt.Variant.{Variant}
use Rattle.mir_ty.specs.declared.def.Sig.{Sig}
use Rattle.mir_ty.specs.declared.ty.Ty.{Ty}
use Rattle.mir_ty.specs.declared.ty.TyId.{TyId}
use Rattle.mir_ty.specs.ItemTable.{ItemTable, type_at}
use Rattle.typing_rules.specs.Collected as rules
use Rattle.typing_rules.specs.Items.{ItemSyn, full_name}
use Rattle.typing_rules.specs.Places.{unit}
use Rattle.typing_rules.specs.Promises.{is_plain_name}
use Rattle.typing_rules.specs.Written.{WrittenScope}
use Rattle.src_ast.specs.Syntax.{Word, Syn, syn, AnExpression, AnItem, AParam, AVariant, MoveOf, StructItem, EnumItem, ImplItem, FnItem, ParamOf, Syns, no_syn, a_syn, list_of, MaybeSyn, nothing, just}
use Rattle.typing_soundness.specs.Closures.{BodySyn, Function, Closure, WrittenHead, Tape, functions_text, function_text}
use Rattle.typing_soundness.specs.Met.{HasTypes}
use Rattle.well_typed.specs.Claim.{Claim, fact}
use Rattle.typing_soundness.specs.Shapes.{no_self}
use Rattle.typing_soundness.specs.Types.{Means}

-- ---- the types of a head

-- a type that is written, where it can be written at all
module _ (around : WrittenScope) (items : ItemTable) where
  abbrev pub MeansIfAny : Syn → TyId → Type 0
  MeansIfAny written ty = (others : ItemTable) (t : TyId) → Means around others written t →
      Means around items written ty

  abbrev pub MeansClosureParam : Syn → TyId → Type 0
  MeansClosureParam (syn at (AParam (ParamOf p written))) ty = MeansIfAny written ty
  MeansClosureParam _ ty = Unit {0}

  abbrev pub MeanClosureParams : Syns → List TyId → Type 0
  MeanClosureParams no_syn [] = Unit {0}
  MeanClosureParams no_syn (ty ∷ tys) = ⊥
  MeanClosureParams (a_syn first rest) [] = ⊥
  MeanClosureParams (a_syn first rest) (ty ∷ tys) = MeansClosureParam first ty × MeanClosureParams rest tys

  abbrev pub MeansClosureAnswer : MaybeSyn → TyId → Type 0
  MeansClosureAnswer nothing ty = unit ≡ ty
  MeansClosureAnswer (just written) ty = MeansIfAny written ty

abbrev pub AreHeadTypes : ItemTable → ℕ → BodySyn → List TyId → TyId → Type 0
AreHeadTypes items closure (Function head) params answer = HasTypes items head params answer
AreHeadTypes items closure (Closure head) [] answer = ⊥
AreHeadTypes items closure (Closure head) (self ∷ params) answer =
    (type_at items self ≡ Some (Ty.Closure closure)) × MeanClosureParams head.around items head.params
    params × MeansClosureAnswer head.around items head.answer answer

-- the struct or enum that a method is of, by its name, and the whole name of a function or a method
abbrev pub owner_of : WrittenScope → Option Word
owner_of around = option_and_then (slice_get around.adts) around.self_adt

abbrev pub function_name : WrittenHead → Word
function_name head = full_name (owner_of head.around) head.name

-- the name of a closure has a mark that no name in a text has
abbrev pub HasName : BodySyn → List ℕ → Type 0
HasName (Function head) name = name ≡ function_name head
HasName (Closure head) name = is_plain_name name ≡ false

abbrev pub IsHeadOf : ItemTable → ℕ → BodySyn → Sig → Type 0
IsHeadOf items closure text head =
    AreHeadTypes items closure text head.params head.result × HasName text head.name

-- ---- structs and enums

-- as many fields as are declared, each with its name
abbrev pub IsVariantOf : Syns → Variant → Type 0
IsVariantOf fields v =
    (length v.fields ≡ length (list_of fields)) × (v.field_names ≡ rules.names_from 0 (list_of fields))

abbrev pub AreVariantsOf : Syns → List Variant → Type 0
AreVariantsOf no_syn [] = Unit {0}
AreVariantsOf no_syn (v ∷ vs) = ⊥
AreVariantsOf (a_syn first rest) [] = ⊥
AreVariantsOf (a_syn (syn at (AVariant name kind fields)) rest) (v ∷ vs) =
    ((v.name ≡ name) × IsVariantOf fields v) × AreVariantsOf rest vs
AreVariantsOf (a_syn first rest) (v ∷ vs) = ⊥

abbrev pub IsAdtOf : Syn → Adt → Type 0
IsAdtOf (syn at (AnItem (StructItem derives name kind fields))) adt =
    (adt.name ≡ name.1) × (v : Variant) × (adt.variants ≡ v ∷ []) × IsVariantOf fields v × ((v.name ≡ name.1) ×
    (adt.is_enum ≡ false) × (adt.copy ≡ rules.derives (codes "Copy") derives))
IsAdtOf (syn at (AnItem (EnumItem derives name variants))) adt =
    (adt.name ≡ name.1) × (adt.is_enum ≡ true) × AreVariantsOf variants adt.variants × (adt.copy ≡ rules.derives (codes
    "Copy") derives)
IsAdtOf _ adt = ⊥

-- structs and enums in the order of the text
abbrev pub AreAdtsOf : List Syn → List Adt → Type 0
AreAdtsOf [] [] = Unit {0}
AreAdtsOf (i ∷ is) (adt ∷ adts) = IsAdtOf i adt × AreAdtsOf is adts
AreAdtsOf _ _ = ⊥

-- ---- the bodies that are listed for an item

module _ (around : WrittenScope) where
  abbrev pub body_text : Syn → Tape
  body_text (syn at (AnItem (FnItem name params answer block))) =
      λ rest. Function (record { around = around; name = name.1; params = params; answer = answer }) ∷ rest
  body_text (syn at (AnExpression (MoveOf captures params answer body))) =
      λ rest. Closure (record { around = around; name = []; params = params; answer = answer }) ∷ rest
  body_text _ = λ rest. rest

  abbrev pub bodies_text : List Syn → Tape
  bodies_text [] = λ rest. rest
  bodies_text (b ∷ bs) = λ rest. body_text b (bodies_text bs rest)

  -- the bodies of an item, in the order of the text
  abbrev pub inner_text : Syn → Tape
  inner_text (syn at (AnItem (ImplItem trait_ name methods))) = functions_text around (list_of methods)
  inner_text (syn at (AnItem (FnItem name params answer block))) =
      function_text around (syn at (AnItem (FnItem name params answer block)))
  inner_text _ = λ rest. rest

-- an item is listed with all its bodies
abbrev pub TellsBodies : ItemSyn → Type 0
TellsBodies i = (around : WrittenScope) → bodies_text around i.bodies ≡ inner_text around i.item

abbrev pub TellBodies : List ItemSyn → Type 0
TellBodies [] = Unit {0}
TellBodies (i ∷ is) = TellsBodies i × TellBodies is

-- no closure has a parameter `self`
abbrev pub has_no_self : BodySyn → Claim
has_no_self (Function head) = fact true
has_no_self (Closure head) = fact (no_self head.params)
