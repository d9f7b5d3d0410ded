-- What is met of the bodies of a text, as it is typed: each with the types that are written.
use Rattle.std.specs.Prelude.{◌≡◌, ℕ, suc, List, [], ◌∷◌, ◌++◌, length, map, Some, slice_get, Bool, IsTrue}
use Rattle.mir_ty.specs.declared.def.ClosureDef.{ClosureDef}
use Rattle.mir_ty.specs.declared.ty.Ty.{Ty}
use Rattle.mir_ty.specs.declared.ty.TyId.{TyId}
use Rattle.mir_ty.specs.AreItems.{AreDistinct}
use Rattle.mir_ty.specs.ItemTable.{ItemTable, type_at}
use Rattle.typed_tree.specs.Tree.{BodyTree}
use Rattle.typing_rules.specs.Check.{TypingState}
use Rattle.typing_rules.specs.Places.{unit}
use Rattle.typing_rules.specs.Written.{WrittenScope}
use Rattle.src_ast.specs.Syntax.{Receiver, ByValue, ByShared, ByUnique, Syn, syn, AParam, ParamOf, SelfParam, Syns, no_syn, a_syn, MaybeSyn, nothing, just}
use Rattle.typing_soundness.specs.Legal.{legal, legal_param, head_legal}
use Rattle.typing_soundness.specs.Types.{HaveTypes, Means}
use Rattle.typing_soundness.specs.Closures.{BodySyn, Function, Closure, WrittenHead, Tape}

-- ---- the types of a body

-- later items have the closures of earlier ones
abbrev pub HaveClosures : ItemTable → ItemTable → Type 0
HaveClosures old new =
    (n : ℕ) (def : ClosureDef) → slice_get old.closures n ≡ Some def → slice_get new.closures n ≡ Some def

-- what a receiver is, of the type `Self`
abbrev pub IsReceiver : ItemTable → Receiver → TyId → TyId → Type 0
IsReceiver items ByValue own ty = own ≡ ty
IsReceiver items ByShared own ty = type_at items ty ≡ Some (Ty.Shared own)
IsReceiver items ByUnique own ty = type_at items ty ≡ Some (Ty.Unique own)

module _ (around : WrittenScope) (items : ItemTable) where
  abbrev pub MeansParam : Syn → TyId → Type 0
  MeansParam (syn at (AParam (ParamOf p written))) ty = Means around items written ty
  MeansParam (syn at (AParam (SelfParam receiver))) ty =
      (n : ℕ) × (own : TyId) × (around.self_adt ≡ Some n) × (type_at items own ≡ Some (Ty.Adt n)) × IsReceiver items
      receiver own ty
  MeansParam _ ty = ⊥

  abbrev pub MeanParams : Syns → List TyId → Type 0
  MeanParams no_syn [] = Unit {0}
  MeanParams no_syn (ty ∷ tys) = ⊥
  MeanParams (a_syn first rest) [] = ⊥
  MeanParams (a_syn first rest) (ty ∷ tys) = MeansParam first ty × MeanParams rest tys

  abbrev pub MeansAnswer : MaybeSyn → TyId → Type 0
  MeansAnswer nothing ty = unit ≡ ty
  MeansAnswer (just written) ty = Means around items written ty

-- the types of a body mean what is written
abbrev pub HasTypes : ItemTable → WrittenHead → List TyId → TyId → Type 0
HasTypes items head params answer =
    MeanParams head.around items head.params params × MeansAnswer head.around items head.answer answer

-- of a closure, behind the closure itself, which is its first parameter
abbrev pub AreTypesOf : ItemTable → ℕ → BodySyn → List TyId → TyId → Type 0
AreTypesOf items closure (Function head) params answer = HasTypes items head params answer
AreTypesOf items closure (Closure head) [] answer = ⊥
AreTypesOf items closure (Closure head) (self ∷ params) answer =
    (type_at items self ≡ Some (Ty.Closure closure)) × HasTypes items head params answer

abbrev pub types_of : BodyTree → List TyId
types_of body = map (λ p. p.ty) body.params

-- the closure of this number has the body of this number
abbrev pub HasBody : ItemTable → ℕ → BodySyn → ℕ → Type 0
HasBody items closure (Function head) number = Unit {0}
HasBody items closure (Closure head) number =
    (def : ClosureDef) × (slice_get items.closures closure ≡ Some def) × (def.body ≡ number)

-- the types of a text keep all rules
abbrev pub text_legal : BodySyn → Bool
text_legal (Function head) = head_legal legal_param head.params head.answer
text_legal (Closure head) = head_legal legal head.params head.answer

-- a body is made of a text; a closure has the next number of closures
abbrev pub IsBodyOf : ItemTable → ℕ → BodySyn → BodyTree → Type 0
IsBodyOf items closure text body =
    AreTypesOf items closure text (types_of body) body.answer × HasBody items closure text body.number
    × IsTrue (text_legal text)

-- the number of the closure behind a body
abbrev pub behind : BodySyn → ℕ → ℕ
behind (Function head) closure = closure
behind (Closure head) closure = suc closure

-- What is made of the first of the bodies that a text has, up to others, one of each; the closures among them have the
-- numbers from one up to another.
abbrev pub AreMade : {B : Type 0} → (ℕ → BodySyn → B → Type 0) → ℕ → ℕ → List BodySyn → List BodySyn → List B → Type 0
AreMade P from to texts rest [] = (texts ≡ rest) × (from ≡ to)
AreMade P from to [] rest (body ∷ bodies) = ⊥
AreMade P from to (text ∷ texts) rest (body ∷ bodies) =
    P from text body × AreMade P (behind text from) to texts rest bodies

-- From one state to a later one come the bodies of this text; structs, enums and heads stay, and types and closures
-- that are there.
pub record Met (f : Tape) (s t : TypingState) : Type 0 where
  pub types : HaveTypes s.items t.items
  pub distinct : AreDistinct s.items.types → AreDistinct t.items.types
  pub adts : t.items.adts ≡ s.items.adts
  pub heads : t.items.bodies ≡ s.items.bodies
  pub closures : HaveClosures s.items t.items
  pub new : List BodyTree
  pub bodies : t.bodies ≡ s.bodies ++ new
  pub made : (rest : List BodySyn) → AreMade (IsBodyOf t.items) (length s.items.closures) (length t.items.closures) (f
      rest) rest new
