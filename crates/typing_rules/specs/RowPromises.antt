-- What the rows of forms ask of the checks of a node's parts, and what such checks give.
use Rattle.std.specs.Prelude.{◌≡◌, ℕ, Bool, true, not, ◌||◌, List, [], ◌∷◌, Option, Some, None, IsTrue, Contains, slice_get, nat_lt, false}
use Rattle.mir_ty.specs.declared.def.Sig.{Sig}
use Rattle.mir_ty.specs.declared.def.TraitDef.{TraitDef}
use Rattle.mir_ty.specs.declared.ty.Ty.{Ty}
use Rattle.mir_ty.specs.declared.ty.TyId.{TyId}
use Rattle.mir_ty.specs.ItemTable.{ItemTable, type_at}
use Rattle.mir_ty.specs.Parts.{held_by, parts_of, field_ty}
use Rattle.typed_tree.specs.Tree.{Node, Nodes, no_node, a_node, MaybeNode, absent, present, Fields, no_field, a_field}
use Rattle.well_typed.specs.Claim.{Claim, Holds}
use Rattle.mir_ty.specs.DropBodies.{is_drop_body}
use Rattle.well_typed.specs.Nodes.{typed, statements, ends_in, arm, is_one_name}
use Rattle.well_typed.specs.Patterns.{Matched, count_of}
use Rattle.well_typed.specs.Places.{Context, ty_of, form_of, is_place, Wanted, Passed}
use Rattle.well_typed.specs.Types.{closure_in, reference_in, is_reference, reference_of, has_fields, inside_in}
use Rattle.typing_rules.specs.Check.{Check, TypingState}
use Rattle.typing_rules.specs.Places.{bool, Member, agrees}
use Rattle.typing_rules.specs.Promises.{IsReady, IsAlone, IsKnown, Gives, TypingSpot, at_spot, Stands, Knows, IsValue, IsBase, Grows, IsPattern}
use Rattle.typing_rules.specs.Rows.{Method, OfAdt, OfTrait, Referrer, PatternContext, Matcher, Given}
use Rattle.typing_rules.specs.Scope.{Env, NamedEntry, LabelledLoop, with_variables, in_guard}
use Rattle.mir_ty.specs.declared.adt.Variant.{Variant}

-- a place of the text
pub record IsPlace (env : Env) (w : TypingState) (n : Node) : Type 0 where
  pub base : IsBase env w n
  pub is : is_place (form_of n) ≡ true

-- an argument for a parameter of a type
pub record IsArgument (env : Env) (param : TyId) (w : TypingState) (n : Node) : Type 0 where
  pub holds : (p : TypingSpot) → Stands env w p → Holds (typed (at_spot w.items env.answer p) (Passed param) n)

-- what is passed by reference, where the parameter is a reference
abbrev pub SoundReferrer : Env → Referrer → Type 0
SoundReferrer env by_reference = (param to : TyId) (unique : Bool) (s : TypingState) → Knows env s →
    reference_of s.items param ≡ Some (unique, to) → Gives s (IsArgument env param) (by_reference param unique to s)

-- arguments for parameters, and values past them
abbrev pub AreGiven : Env → List TyId → TypingState → Nodes → Type 0
AreGiven env tys w no_node = Unit {0}
AreGiven env [] w (a_node first rest) = IsValue env None w first × AreGiven env [] w rest
AreGiven env (ty ∷ tys) w (a_node first rest) = IsArgument env ty w first × AreGiven env tys w rest

pub record IsGiven (env : Env) (params : List TyId) (count : ℕ) (w : TypingState) (ns : Nodes) : Type 0 where
  pub are : AreGiven env params w ns
  pub counted : count_of ns ≡ count

-- the checks of so many arguments
abbrev pub SoundArgs : Env → ℕ → (List TyId → Check Nodes) → Type 0
SoundArgs env count args = (params : List TyId) (s : TypingState) → Knows env s →
    ((ty : TyId) → Contains params ty → IsKnown s.items ty) → Gives s (IsGiven env params count) (args params s)

-- parts, each of the type beside it
abbrev pub AreParts : Env → TypingState → Nodes → List TyId → Type 0
AreParts env w no_node [] = Unit {0}
AreParts env w no_node (ty ∷ tys) = ⊥
AreParts env w (a_node first rest) [] = ⊥
AreParts env w (a_node first rest) (ty ∷ tys) =
    (IsAlone w.items ty × ((p : TypingSpot) → Stands env w p → Holds (typed (at_spot w.items env.answer p) (Wanted ty)
    first))) ×
    AreParts env w rest tys

-- the checks of parts, with the types that are required of them
abbrev pub SoundParts : Env → (List (Option TyId) → Check (Nodes × List TyId)) → Type 0
SoundParts env parts = (wants : List (Option TyId)) (s : TypingState) → Knows env s →
    ((ty : TyId) → Contains wants (Some ty) → IsAlone s.items ty) →
    Gives s (λ w ps. AreParts env w ps.0 ps.1) (parts wants s)

-- elements, each of its own type, and of the required one
abbrev pub AreElements : Env → Option TyId → TypingState → Nodes → List TyId → Type 0
AreElements env expected w no_node [] = Unit {0}
AreElements env expected w no_node (ty ∷ tys) = ⊥
AreElements env expected w (a_node first rest) [] = ⊥
AreElements env expected w (a_node first rest) (ty ∷ tys) =
    (IsValue env expected w first × (ty ≡ ty_of first)) × AreElements env expected w rest tys

abbrev pub SoundElements : Env → ℕ → (Option TyId → Check (Nodes × List TyId)) → Type 0
SoundElements env count elements = (expected : Option TyId) (s : TypingState) → Knows env s →
    Gives s (λ w ps. AreElements env expected w ps.0 ps.1 × (count_of ps.0 ≡ count)) (elements expected s)

-- what a type is made of is ready
pub record IsMade (items : ItemTable) (ty : Ty) : Type 0 where
  pub held : (part : TyId) → Contains (held_by items ty) part → IsAlone items part
  pub parts : (part : TyId) (variant n : ℕ) → slice_get (parts_of items ty variant) n ≡ Some part → IsAlone items part
  pub inside : (to : TyId) → inside_in ty ≡ Some to → IsReady items to × IsTrue (not (is_reference items to))

-- a value that may be left out
abbrev pub IsMaybe : Env → Option TyId → TypingState → MaybeNode → Type 0
IsMaybe env expected w absent = Unit {0}
IsMaybe env expected w (present n) = IsValue env expected w n

abbrev pub SoundMaybe : Env → (Option TyId → Check MaybeNode) → Type 0
SoundMaybe env value = (expected : Option TyId) (s : TypingState) → Knows env s →
    Gives s (IsMaybe env expected) (value expected s)

-- a loop that is in scope
abbrev pub IsLoopOf : Env → Option LabelledLoop → Type 0
IsLoopOf env to = (a : LabelledLoop) → to ≡ Some a → Contains env.loops a

-- statements, whether one of them ends the block, and where the rest of the block stands
pub record AreStatements (env : Env) (w : TypingState) (done : Nodes × Bool × Env) : Type 0 where
  pub holds : (p : TypingSpot) → Stands env w p → (behind : Context → Claim) →
      ((q : TypingSpot) → Stands done.2 w q → Holds (behind
      (at_spot w.items env.answer q))) → Holds (statements (at_spot w.items env.answer p) done.0 behind)
  pub ends : ends_in w.items done.0 ≡ done.1
  pub answer : done.2.answer ≡ env.answer

-- the checks of statements, after which more names are known
abbrev pub SoundStatements : Env → Check (Nodes × Bool × Env) → Type 0
SoundStatements env check = (s : TypingState) → Knows env s →
    Gives s (λ w done. AreStatements env w done × Knows done.2 w)
    (check
    s)

-- a value that may be left out, where the names of another environment are known
abbrev pub SoundTail : Env → (Env → Option TyId → Check MaybeNode) → Type 0
SoundTail env tail = (inner : Env) → inner.answer ≡ env.answer → (expected : Option TyId) (s : TypingState) →
    Knows inner s → Gives s (IsMaybe inner expected) (tail inner expected s)

-- one statement, in whose scope what is behind it stands
pub record IsStatement (env : Env) (w : TypingState) (done : Node × Bool × Env) : Type 0 where
  pub holds : (p : TypingSpot) → Stands env w p → (rest : Nodes) (behind : Context → Claim) →
      ((q : TypingSpot) → Stands done.2 w
      q →
      Holds (statements (at_spot w.items env.answer q) rest behind)) → Holds (statements (at_spot w.items env.answer p)
      (a_node done.0 rest) behind)
  pub ends : (rest : Nodes) → ends_in w.items (a_node done.0 rest) ≡ (done.1 || ends_in w.items rest)
  pub answer : done.2.answer ≡ env.answer

abbrev pub SoundStatement : Env → Check (Node × Bool × Env) → Type 0
SoundStatement env check = (s : TypingState) → Knows env s → Gives s (λ w done. IsStatement env w done × Knows done.2 w)
    (check s)

-- a part that is found is a part of the type
abbrev pub IsMember : Member (ℕ × TyId) → Type 0
IsMember member = (items : ItemTable) (id : TyId) (f : ℕ × TyId) → member items id ≡ Some f →
    IsTrue (has_fields items id) × (field_ty items id 0 f.0 ≡ Some f.1)

-- an arm for a place of a type: what it asks of its place, and the type of its body
pub record IsArm (env : Env) (e : PatternContext) (ty : TyId) (expected : Option TyId) (w : TypingState) (n : Node) :
    Type 0 where
  pub holds : (p : TypingSpot) → Stands env w p → (place : Matched) → place.takes_all ≡ e.takes_all →
      (IsTrue (not e.is_fixed) → IsTrue place.may_move) → Holds (arm (at_spot w.items env.answer p) place ty n)
  pub alone : IsAlone w.items (ty_of n)
  pub fit : IsTrue (agrees w.items expected (ty_of n))

-- arms, each of its own type, and of the required one
abbrev pub AreArms : Env → PatternContext → TyId → Option TyId → TypingState → Nodes → List TyId → Type 0
AreArms env e ty expected w no_node [] = Unit {0}
AreArms env e ty expected w no_node (t ∷ tys) = ⊥
AreArms env e ty expected w (a_node first rest) [] = ⊥
AreArms env e ty expected w (a_node first rest) (t ∷ tys) =
    (IsArm env e ty expected w first × (t ≡ ty_of first)) × AreArms env e ty expected w rest tys

-- the checks of one arm or more
abbrev pub SoundArms : Env → (PatternContext → TyId → Option TyId → Check (Nodes × List TyId)) → Type 0
SoundArms env arms = (e : PatternContext) (ty : TyId) (expected : Option TyId) (s : TypingState) → Knows env s →
    IsReady s.items ty →
    Gives s (λ w ns. AreArms env e ty expected w ns.0 ns.1 × IsTrue (nat_lt 0 (count_of ns.0))) (arms e ty expected s)

-- a condition that may be left out
abbrev pub SoundGuard : Env → (List NamedEntry → Check MaybeNode) → Type 0
SoundGuard env guard = (xs : List NamedEntry) (s : TypingState) → Knows (with_variables (in_guard xs) env) s →
    Gives s (IsMaybe (with_variables (in_guard xs) env) (Some bool)) (guard xs s)

-- a body that is called by a name: its first parameter is no closure, as that of a closure's body is
abbrev pub IsFunction : TypingState → ℕ → Sig → Type 0
IsFunction s body head = (slice_get s.items.bodies body ≡ Some head) × ((self : TyId) (rest : List TyId) (k : ℕ) →
    head.params ≡ self ∷ rest → type_at s.items self ≡ Some (Ty.Closure k) → ⊥)

-- what a type has of a name: a body that is called by it, or a method of a trait
pub data IsMethodOf (s : TypingState) (own : TyId) : Method → Type 0 where
  of_adt : {body : ℕ} {is_drop : Bool} {head : Sig} → slice_get s.items.bodies body ≡ Some head →
      is_drop ≡ is_drop_body s.items body → IsMethodOf s own (OfAdt body is_drop head)
  of_trait : {trait_no method : ℕ} {head : Sig} (def : TraitDef) → slice_get s.items.traits trait_no ≡ Some def →
      slice_get def.methods method ≡ Some head → IsMethodOf s own (OfTrait trait_no method head)

-- a type that is neither a reference nor a closure
abbrev pub IsPlainType : ItemTable → TyId → Type 0
IsPlainType items own = (ty : Ty) × (type_at items own ≡ Some ty) × (reference_in ty ≡ None) × (closure_in ty ≡ None)

-- what a look-up finds is a method of its type, which is neither a reference nor a closure
abbrev pub FindsMethods : (ItemTable → TyId → Option Method) → Type 0
FindsMethods named = (s : TypingState) (own : TyId) (m : Method) → named s.items own ≡ Some m →
    IsMethodOf s own m × IsPlainType s.items own

-- what a `let` is given: one name takes a value, another pattern takes a place or a temporary apart
pub record IsInParts (env : Env) (expected : Option TyId) (w : TypingState) (n : Node) : Type 0 where
  pub base : IsBase env w n
  pub fit : IsTrue (agrees w.items expected (ty_of n))
  pub no_reference : IsTrue (not (is_reference w.items (ty_of n)))

abbrev pub IsInitialiser : Env → Bool → Option TyId → TypingState → MaybeNode → Type 0
IsInitialiser env is_one_name expected w absent = Unit {0}
IsInitialiser env true expected w (present n) = IsValue env expected w n
IsInitialiser env false expected w (present n) = IsInParts env expected w n

abbrev pub SoundInitialiser : Env → Bool → (Option TyId → Check MaybeNode) → Type 0
SoundInitialiser env is_one_name value = (expected : Option TyId) (s : TypingState) → Knows env s →
    Gives s (IsInitialiser env is_one_name expected) (value expected s)

-- a type that may be written
abbrev pub SoundDeclared : Check (Option TyId) → Type 0
SoundDeclared check = (s : TypingState) → Gives s (λ w ty. (t : TyId) → ty ≡ Some t → IsAlone w.items t) (check s)

-- a pattern that is one name, or is none, from a state on
abbrev pub SoundPattern : TypingState → Bool → Matcher → Type 0
SoundPattern first is_one check = (e : PatternContext) (ty : TyId) (s : TypingState) → Grows first s →
    IsReady s.items ty → Gives s (λ w b. IsPattern e ty s.next_node w b × (is_one_name b.0 ≡ is_one)) (check e ty s)

-- values for fields by their names, none known where there is no such field
abbrev pub AreInits : Env → Variant → TypingState → Fields → Given → Type 0
AreInits env v w no_field [] = Unit {0}
AreInits env v w no_field (k ∷ given) = ⊥
AreInits env v w (a_field number value rest) [] = ⊥
AreInits env v w (a_field number value rest) (None ∷ given) = AreInits env v w rest given
AreInits env v w (a_field number value rest) (Some n ∷ given) =
    ((number ≡ n) × ((ty : TyId) × (slice_get v.fields n ≡ Some ty) × IsValue env (Some ty) w value)) × AreInits env v
    w rest
    given

abbrev pub SoundInits : Env → Variant → Check (Fields × Given) → Type 0
SoundInits env v check = (s : TypingState) → Knows env s → Gives s (λ w fs. AreInits env v w fs.0 fs.1) (check s)
