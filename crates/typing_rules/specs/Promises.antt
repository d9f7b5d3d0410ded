-- What the checks of expressions promise: what a check gives is well typed in each later state of the walk, wherever a
-- node may stand in the end whose names and loops are those of the environment.
use Rattle.std.specs.Prelude.{◌≡◌, ℕ, suc, ◌≤◌, ◌==◌, None, Bool, true, false, not, List, [], ◌∷◌, ◌⊎◌, map, length, Option, Some, Result, Ok, Err, IsTrue, Contains, slice_get, is_some}
use Rattle.std.specs.List.{list_any}
use Rattle.mir_ty.specs.declared.adt.Adt.{Adt}
use Rattle.mir_ty.specs.declared.adt.Variant.{Variant}
use Rattle.mir_ty.specs.declared.def.ClosureDef.{ClosureDef}
use Rattle.mir_ty.specs.declared.def.Sig.{Sig}
use Rattle.mir_ty.specs.declared.def.TraitDef.{TraitDef}
use Rattle.mir_ty.specs.declared.ty.Ty.{Ty}
use Rattle.mir_ty.specs.declared.ty.TyId.{TyId}
use Rattle.mir_ty.specs.AreItems.{AreDistinct, types_in}
use Rattle.mir_ty.specs.ItemTable.{ItemTable, type_at}
use Rattle.mir_ty.specs.Parts.{field_ty, held_by, parts_of}
use Rattle.typed_tree.specs.Tree.{Node, BodyTree}
use Rattle.well_typed.specs.Claim.{Holds}
use Rattle.well_typed.specs.Names.{are_distinct}
use Rattle.well_typed.specs.Nodes.{typed}
use Rattle.well_typed.specs.Patterns.{Matched, pattern, names_of, entries_of}
use Rattle.well_typed.specs.Places.{InScope, LoopAround, Context, entry_with, loop_with, may_move, ty_of, form_of, is_place, Taken, Base}
use Rattle.well_typed.specs.Program.{is_body}
use Rattle.well_typed.specs.Types.{closure_in, fits, inside_of, is_reference, is_unit, variant_at}
use Rattle.typing_rules.specs.Check.{Check, TypingState, Broken}
use Rattle.typing_rules.specs.Named.{is_unit_kind}
use Rattle.typing_rules.specs.Places.{scalars, agrees, is_fixed, is_shared_root, in_own_guard}
use Rattle.typing_rules.specs.Rows.{Typer, PatternContext, Matcher}
use Rattle.typing_rules.specs.Scope.{Env, NamedEntry, LabelledLoop, VariableMeaning, Local, Capture, InGuard, kind_at}
use Rattle.src_ast.specs.Syntax.{Word, FieldsKind}

-- ---- later states

-- later items: more types, more closures, and all else as it was
pub record Extends (old new : ItemTable) : Type 0 where
  pub types : (n : ℕ) (ty : Ty) → slice_get old.types n ≡ Some ty → slice_get new.types n ≡ Some ty
  pub closures : (n : ℕ) (def : ClosureDef) → slice_get old.closures n ≡ Some def → slice_get new.closures n ≡ Some def
  pub adts : new.adts ≡ old.adts
  pub traits : new.traits ≡ old.traits
  pub impls : new.impls ≡ old.impls
  pub bodies : new.bodies ≡ old.bodies

-- a type in the table that is no closure still to come
abbrev pub IsThere : ItemTable → Ty → Type 0
IsThere items (Ty.Closure n) = IsTrue (is_some (slice_get items.closures n))
IsThere items ty = Unit {0}

abbrev pub IsReady : ItemTable → TyId → Type 0
IsReady items id = (ty : Ty) × (type_at items id ≡ Some ty) × IsThere items ty

-- a type of values: neither `dyn` nor a reference, and ready
abbrev pub IsValueType : ItemTable → Ty → Type 0
IsValueType items (Ty.Dyn n) = ⊥
IsValueType items (Ty.Shared to) = ⊥
IsValueType items (Ty.Unique to) = ⊥
IsValueType items ty = IsThere items ty

abbrev pub IsAlone : ItemTable → TyId → Type 0
IsAlone items id = (ty : Ty) × (type_at items id ≡ Some ty) × IsValueType items ty

-- a type in the table
abbrev pub IsKnown : ItemTable → TyId → Type 0
IsKnown items id = (ty : Ty) × (type_at items id ≡ Some ty)

-- the types that a tuple or an array is made of
abbrev pub made_of : Ty → List TyId
made_of (Ty.Tuple parts) = parts
made_of (Ty.Array element count) = element ∷ []
made_of _ = []

-- A closure comes after what it captures: so many types were there before it, those of its captures among them, and the
-- closures that its captures or those types are made of have lower numbers.
pub record ComesAfter (types : List Ty) (k : ℕ) (def : ClosureDef) : Type 0 where
  pub before : ℕ
  pub within : before ≤ length types
  pub captures : (part : TyId) → Contains def.captures part → suc part.0 ≤ before
  pub captured : (part : TyId) (j : ℕ) → Contains def.captures part → slice_get types part.0 ≡ Some (Ty.Closure j) →
      suc j ≤ k
  pub lower : (n j : ℕ) (ty : Ty) (part : TyId) → suc n ≤ before → slice_get types n ≡ Some ty → Contains (made_of ty)
      part → slice_get types part.0 ≡ Some (Ty.Closure j) → suc j ≤ k

-- the table begins with the types that have fixed numbers, and what it says of types and heads is ready
pub record AreReady (items : ItemTable) : Type 0 where
  pub begins : (n : ℕ) (ty : Ty) → slice_get scalars n ≡ Some ty → slice_get items.types n ≡ Some ty
  pub distinct : AreDistinct items.types
  -- the types in a type, behind boxes and references too, have lower numbers
  pub parts_first : (id part : TyId) (ty : Ty) → type_at items id ≡ Some ty → Contains (types_in ty) part →
      suc part.0 ≤ id.0
  pub held : (id part : TyId) (ty : Ty) → type_at items id ≡ Some ty → Contains (held_by items ty) part →
      IsAlone items part
  pub parts : (id part : TyId) (variant n : ℕ) → field_ty items id variant n ≡ Some part → IsAlone items part
  pub held_fields : (n : ℕ) (part : TyId) → Contains (held_by items (Ty.Adt n)) part → IsAlone items part
  pub fields : (n variant k : ℕ) (part : TyId) → slice_get (parts_of items (Ty.Adt n) variant) k ≡ Some part →
      IsAlone items part
  pub inside : (id to : TyId) → inside_of items id ≡ Some to → IsReady items to × IsTrue (not (is_reference items to))
  pub results : (n : ℕ) (sig : Sig) → slice_get items.bodies n ≡ Some sig → IsAlone items sig.result
  pub methods : (n k : ℕ) (def : TraitDef) (sig : Sig) → slice_get items.traits n ≡ Some def →
      slice_get def.methods k ≡ Some sig → IsAlone items sig.result
  pub params : (n : ℕ) (sig : Sig) (ty : TyId) → slice_get items.bodies n ≡ Some sig → Contains sig.params ty →
      IsKnown items ty
  pub method_params : (n k : ℕ) (def : TraitDef) (sig : Sig) (ty : TyId) → slice_get items.traits n ≡ Some def →
      slice_get def.methods k ≡ Some sig → Contains sig.params ty → IsKnown items ty
  pub order : (n : ℕ) (ty : Ty) (part : TyId) → slice_get items.types n ≡ Some ty → Contains (made_of ty) part →
      suc part.0 ≤ n
  pub after : (k : ℕ) (def : ClosureDef) → slice_get items.closures k ≡ Some def → ComesAfter items.types k def

-- the head of a closure's body begins with the closure
abbrev pub AreClosures : ItemTable → Type 0
AreClosures items =
    (k : ℕ) (def : ClosureDef) (head : Sig) → slice_get items.closures k ≡ Some def → slice_get items.bodies def.body ≡
    Some head → (self : TyId) × (rest : List TyId) × (head.params ≡ self ∷ rest) × (type_at items self ≡ Some
    (Ty.Closure k))

-- a body whose head has its types is well typed
abbrev pub IsBodyIn : ItemTable → BodyTree → Type 0
IsBodyIn items body =
    (head : Sig) → slice_get items.bodies body.number ≡ Some head → head.params ≡ map (λ p. p.ty) body.params →
    head.result ≡ body.answer → Holds (is_body items body.number head body)

-- a body that is whole: it is well typed among all later items
abbrev pub IsWhole : ItemTable → BodyTree → Type 0
IsWhole items body = (later : ItemTable) → Extends items later → AreReady later → AreClosures later →
    IsBodyIn later body

-- the loops of all breaks so far have numbers that are given out, and what they carry has a type of values
abbrev pub AreBreaks : TypingState → Type 0
AreBreaks s = (b : ℕ × TyId) → Contains s.breaks b → (suc b.0 ≤ s.next_node) × IsAlone s.items b.1

-- from a state to a later one
pub record Grows (s t : TypingState) : Type 0 where
  pub items : Extends s.items t.items
  pub ready : AreReady s.items → AreReady t.items
  pub breaks : (b : ℕ × TyId) → Contains s.breaks b → Contains t.breaks b
  pub numbers : s.next_node ≤ t.next_node
  pub below : AreBreaks s → AreBreaks t
  pub made : (body : BodyTree) → Contains t.bodies body → Contains s.bodies body ⊎ IsWhole t.items body

-- ---- what a check gives

-- what is so of a value and the state after it, where no rule is broken
abbrev pub Then : {A : Type 0} → Result (A × TypingState) Broken → (A → TypingState → Type 0) → Type 0
Then (Ok a) P = P a.0 a.1
Then (Err e) P = Unit {0}

-- a fact on a value, in a later state
abbrev pub Fact : Type 0 → Type 1
Fact A = TypingState → A → Type 0

abbrev pub HoldsOnward : {A : Type 0} → TypingState → Fact A → A → TypingState → Type 0
HoldsOnward s Q a t = Grows s t × ((w : TypingState) → Grows t w → Q w a)

pub record Gives {A : Type 0} (s : TypingState) (Q : Fact A) (r : Result (A × TypingState) Broken) : Type 0 where
  pub so : AreReady s.items → Then r (HoldsOnward s Q)

-- ---- where a node stands

-- the entries in scope, in the body of a closure the closure's value, and the loops around
pub record TypingSpot : Type 0 where
  pub entries : List InScope
  pub closure : Option InScope
  pub loops : List LoopAround

abbrev pub at_spot : ItemTable → TyId → TypingSpot → Context
at_spot items answer p =
    record { items = items; entries = p.entries; closure = p.closure; loops = p.loops; answer = answer }

abbrev pub in_scope : ℕ → TyId → Bool → InScope
in_scope key ty is_in_guard = record { key = key; ty = ty; is_in_guard = is_in_guard }

-- what a variable is, is there
abbrev pub Means : ItemTable → TypingSpot → TyId → VariableMeaning → Type 0
Means items p ty (Local key) = entry_with key p.entries ≡ Some (in_scope key ty false)
Means items p ty (InGuard key) = entry_with key p.entries ≡ Some (in_scope key ty true)
Means items p ty (Capture closure part) =
    (x : InScope) × (p.closure ≡ Some x) × (x.key ≡ closure) × (field_ty items x.ty 0 part ≡ Some ty)

-- the breaks out of a loop that may carry a value fit its type; another loop is `()`
abbrev pub Carries : TypingState → LoopAround → Bool → Type 0
Carries w l true = (b : ℕ × TyId) → Contains w.breaks b → b.0 ≡ l.loop → IsTrue (fits w.items l.ty b.1)
Carries w l false = IsTrue (is_unit w.items l.ty)

abbrev pub IsAround : TypingState → TypingSpot → LabelledLoop → Type 0
IsAround w p a =
    (l : LoopAround) × (loop_with a.loop p.loops ≡ Some l) × (l.loop ≡ a.loop) × (l.has_value ≡ a.has_value) ×
    Carries w l a.has_value

-- a spot whose names and loops are those of an environment, among items whose closures have their heads
pub record Stands (env : Env) (w : TypingState) (p : TypingSpot) : Type 0 where
  pub variables : (x : NamedEntry) → Contains env.variables x → Means w.items p x.ty x.meaning
  pub loops : (a : LabelledLoop) → Contains env.loops a → IsAround w p a
  pub closures : AreClosures w.items

-- numbers of a body are given out in their order, so those in an environment are below the next
abbrev pub IsBelow : ℕ → VariableMeaning → Type 0
IsBelow n (Local key) = suc key ≤ n
IsBelow n (InGuard key) = suc key ≤ n
IsBelow n (Capture closure part) = Unit {0}

-- a name without the mark that stands in the names of closures
abbrev pub is_plain_name : Word → Bool
is_plain_name name = not (list_any (λ byte. byte == 35) name)

-- What the table of kinds and the names of items say of them: a struct has a variant, what is written without parts has
-- none, there are as many names as fields, `Self` is there, and the first parameter of a body with a plain name is no
-- closure.
pub record KnowsItems (kinds : List (List FieldsKind)) (self_adt : Option ℕ) (items : ItemTable) : Type 0 where
  pub structs : (n : ℕ) (def : Adt) → slice_get items.adts n ≡ Some def → def.is_enum ≡ false → (v : Variant) ×
      (variant_at items n 0 ≡ Some v)
  pub units : (n variant : ℕ) (v : Variant) → variant_at items n variant ≡ Some v →
      IsTrue (is_unit_kind (kind_at kinds n variant)) → v.fields ≡ []
  pub named : (n variant : ℕ) (v : Variant) → variant_at items n variant ≡ Some v →
      length v.field_names ≡ length v.fields
  pub self : (n : ℕ) → self_adt ≡ Some n → IsTrue (is_some (slice_get items.adts n))
  pub adts : (n : ℕ) (def : Adt) → slice_get items.adts n ≡ Some def → IsTrue (is_plain_name def.name)
  pub functions : (body : ℕ) (head : Sig) (self : TyId) (rest : List TyId) → slice_get items.bodies body ≡ Some head →
      IsTrue (is_plain_name head.name) → head.params ≡ self ∷ rest → (ty : Ty) × (type_at items self ≡ Some ty) ×
      (closure_in ty ≡ None)

pub record Knows (env : Env) (s : TypingState) : Type 0 where
  pub types : (x : NamedEntry) → Contains env.variables x → IsReady s.items x.ty
  pub keys : (x : NamedEntry) → Contains env.variables x → IsBelow s.next_node x.meaning
  pub loops : (a : LabelledLoop) → Contains env.loops a → suc a.loop ≤ s.next_node
  pub breaks : AreBreaks s
  pub items : KnowsItems env.kinds env.self_adt s.items

-- ---- nodes

-- a value of a type that fits the required one
pub record IsValue (env : Env) (expected : Option TyId) (w : TypingState) (n : Node) : Type 0 where
  pub alone : IsAlone w.items (ty_of n)
  pub fit : IsTrue (agrees w.items expected (ty_of n))
  pub holds : (p : TypingSpot) → Stands env w p → Holds (typed (at_spot w.items env.answer p) Taken n)

-- a value that is no place
pub record IsTemporary (env : Env) (expected : Option TyId) (w : TypingState) (n : Node) : Type 0 where
  pub value : IsValue env expected w n
  pub is_no_place : is_place (form_of n) ≡ false

-- a place, or a value that becomes a temporary; what is asked of places is so in each later state
pub record IsBase (env : Env) (w : TypingState) (n : Node) : Type 0 where
  pub ready : IsReady w.items (ty_of n)
  pub holds : (p : TypingSpot) → Stands env w p → Holds (typed (at_spot w.items env.answer p) Base n)
  pub moves : (p : TypingSpot) → Stands env w p → IsTrue (not (is_fixed w.items (in_own_guard env.variables) n)) →
      IsTrue (may_move (at_spot w.items env.answer p) n)
  pub is_fixed : (v : TypingState) → Grows w v →
      is_fixed v.items (in_own_guard env.variables) n ≡ is_fixed w.items (in_own_guard env.variables) n
  pub is_shared : (v : TypingState) → Grows w v → is_shared_root v.items n ≡ is_shared_root w.items n

-- ---- checks

-- the check of a value gives what is well typed, whatever is required of it
abbrev pub Sound : Env → Typer → Type 0
Sound env check = (expected : Option TyId) (s : TypingState) → Knows env s →
    Gives s (IsValue env expected) (check expected s)

abbrev pub SoundTemporary : Env → Typer → Type 0
SoundTemporary env check = (expected : Option TyId) (s : TypingState) → Knows env s →
    Gives s (IsTemporary env expected) (check expected s)

abbrev pub SoundBase : Env → Check Node → Type 0
SoundBase env check = (s : TypingState) → Knows env s → Gives s (IsBase env) (check s)

-- ---- patterns

abbrev pub key_of : VariableMeaning → ℕ
key_of (Local key) = key
key_of (InGuard key) = key
key_of (Capture closure part) = 0

-- the entries of names that are bound
abbrev pub are_bound : Bool → List NamedEntry → List InScope
are_bound is_in_guard [] = []
are_bound is_in_guard (x ∷ xs) = in_scope (key_of x.meaning) x.ty is_in_guard ∷ are_bound is_in_guard xs

-- names that are bound are entries of the body, by numbers that rise from one number to another
abbrev pub AreFresh : ℕ → List NamedEntry → ℕ → Type 0
AreFresh n [] m = n ≤ m
AreFresh n (x ∷ xs) m =
    (x.meaning ≡ Local (key_of x.meaning)) × (n ≤ key_of x.meaning) × AreFresh (suc (key_of x.meaning)) xs m

abbrev pub AreReadyTypes : ItemTable → List NamedEntry → Type 0
AreReadyTypes items [] = Unit {0}
AreReadyTypes items (x ∷ xs) = IsReady items x.ty × AreReadyTypes items xs

-- a pattern for a place of a type, with its bindings, whose numbers begin at one number
pub record IsPattern (e : PatternContext) (ty : TyId) (n : ℕ) (w : TypingState) (b : Node × List NamedEntry) :
    Type 0 where
  pub holds : (place : Matched) → place.takes_all ≡ e.takes_all → (IsTrue (not e.is_fixed) → IsTrue place.may_move) →
      Holds (pattern w.items place ty b.0)
  pub names : IsTrue (are_distinct (names_of b.0))
  pub entries : entries_of b.0 ≡ are_bound false b.1
  pub fresh : AreFresh n b.1 w.next_node
  pub types : AreReadyTypes w.items b.1

-- the check of a pattern gives what is well typed for each place of its type
abbrev pub SoundMatcher : Matcher → Type 0
SoundMatcher check = (e : PatternContext) (ty : TyId) (s : TypingState) → IsReady s.items ty →
    Gives s (IsPattern e ty s.next_node) (check e ty s)
