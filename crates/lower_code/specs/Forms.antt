-- The code of each form of expressions and statements, one line a form, beside the lines of
-- `src_meaning/specs/Evaluation`.
use Rattle.std.specs.Prelude.{ℕ, not, Bool, true, false, ◌||◌, List, [], ◌∷◌, map}
use Rattle.mir_base.specs.declared.trace.Why.{Why}
use Rattle.mir_ty.specs.Facts.{needs_drop}
use Rattle.mir_ty.specs.ItemTable.{ItemTable}
use Rattle.store_model.specs.Effects as effects
use Rattle.store_model.specs.Effects.{EffectSite, Operand, Action, OfTuple, OfArray, OfVariant, OfClosure}
use Rattle.store_model.specs.Places.Place.{Place, whole_local, before_element}
use Rattle.typed_tree.specs.Tree as tree
use Rattle.typed_tree.specs.Tree.{Node, node, Form, Nodes, no_node, a_node, Fields, no_field, a_field, MaybeNode, absent, present, ParamTree, BodyTree}
use Rattle.src_meaning.specs.Evaluation.{in_number_order, to_own_key}
use Rattle.src_meaning.specs.Forms.{Destination, Into, Coerced, coerced, LoopsAndGuards, in_loop, loop_destination, in_guard, entry_of, bound_entry, site_in, site_of_key, moved, is_never}
use Rattle.src_meaning.specs.Locals.OfBody.{param_key, answer_key}
use Rattle.src_meaning.specs.Scopes.{Entry, Breaks, Continues, Returns}
use Rattle.src_meaning.specs.Shape.{NodeHead, head, Shape, PatternTests, BoundName, kind_of, shape, shape_of, site_at, operand_of_bound, operand_at}
use Rattle.src_meaning.specs.FieldKeys.{field_keys, moved_fields}
use Rattle.lower_code.specs.Code.{ScopeAt, Innermost, AroundInnermost, NearestTemporary, NewScope, Pends, Completes, Enters, Names, Takes, IsTrue, Passes, Code, Nothing, Changes, From, Then, BackIn, Acts, InScope, Leaves, Branches, Loops, Exits, Panics, Replaces, Drops, Matches, Arms, no_arm, an_arm, Arm, Taken, Empty, Guard, no_guard, a_guard}

abbrev pub Evaluates : Type 0
Evaluates = LoopsAndGuards → Bool → Destination → Code

abbrev pub Reaches : Type 0
Reaches = LoopsAndGuards → Code

abbrev pub MakesInto : Type 0
MakesInto = LoopsAndGuards → Destination → Code

-- an arm, given the place that is matched
abbrev pub ArmOf : Type 0
ArmOf = Place → LoopsAndGuards → Destination → Arm

-- a node: its code as it is evaluated, as its place is reached, as an arm
pub record NodeWords : Type 0 where
  pub head : NodeHead
  pub shape : Shape
  pub evaluates : Evaluates
  pub reaches : Reaches
  pub arm : ArmOf

pub data WordsIfAny : Type 0 where
  no_code : WordsIfAny
  a_code : (one : NodeWords) → WordsIfAny

abbrev pub keys_of : List NodeWords → List ℕ
keys_of [] = []
keys_of (m ∷ ms) = m.head.id ∷ keys_of ms

abbrev pub all_moved : ℕ → List NodeWords → List Operand
all_moved number ms = map (moved number) (keys_of ms)

abbrev pub place_in : NodeWords → LoopsAndGuards → Place
place_in m around = m.shape.place around.aliases

abbrev pub site_of : NodeWords → LoopsAndGuards → EffectSite
site_of m around = site_at m.head (place_in m around)

-- Values and destinations.

-- the key under which a value is made first
abbrev pub key_in : Destination → ℕ
key_in (Into key) = key
key_in (Coerced key trait_no to) = key

-- an effect whose answer goes to the destination of a node
abbrev pub delivers : ℕ → ℕ → Action → Destination → Code
delivers number id action (Into key) = Acts number action
delivers number id action (Coerced key trait_no to) =
    Then (Acts number action) (Acts id (effects.Unsize (site_in id to) trait_no (moved id key)))

-- an effect at a node, given where its answer goes
abbrev pub deliver_at : (number id : ℕ) → (EffectSite → Action) → Destination → Code
deliver_at number id action to = delivers number id (action (site_in id (key_in to))) to

abbrev pub deliver : ℕ → (EffectSite → Action) → Destination → Code
deliver id action to = deliver_at id id action to

abbrev pub put_unit : ℕ → Destination → Code
put_unit id to = deliver id (λ site. effects.Put site effects.UnitValue) to

abbrev pub put_unit_if : (is_never : Bool) → ℕ → Destination → Code
put_unit_if true id to = Nothing
put_unit_if false id to = put_unit id to

abbrev pub in_own_scope : ℕ → Bool → Code → Code
in_own_scope id true code = InScope id true code
in_own_scope id false code = code

abbrev pub alone : LoopsAndGuards → NodeWords → Destination → Code
alone around m to = BackIn (m.evaluates around true to)

-- code before which a destination is pending, if it is
abbrev pub from_pending : Bool → ScopeAt → Entry → Code → Code
from_pending true at e code = From (Pends at e) code
from_pending false at e code = code

-- code whose destination is an entry behind it, and is pending meanwhile, if it has to be
abbrev pub made_entry : Bool → ScopeAt → Entry → Code → Code
made_entry pends at e code = from_pending pends at e (Then code (Changes (Completes at e)))

abbrev pub operand : LoopsAndGuards → NodeWords → Code
operand around m =
    made_entry m.shape.in_destination Innermost (entry_of m.head) (m.evaluates around false (Into m.head.id))

abbrev pub operands : LoopsAndGuards → List NodeWords → Code
operands around [] = Nothing
operands around (m ∷ ms) = Then (operand around m) (operands around ms)

-- operands are made and taken, and then comes what a node does with them
abbrev pub behind_operands : ℕ → Bool → Code → List ℕ → Code → Code
behind_operands id own made keys code = InScope id own (Then made (From (Takes keys) code))

abbrev pub acting : ℕ → LoopsAndGuards → Bool → List NodeWords → Code → Code
acting id around own ms code = behind_operands id own (operands around ms) (keys_of ms) code

abbrev pub dropping : ℕ → LoopsAndGuards → Bool → NodeWords → Code → Code
dropping id around own m code = InScope id own (Then (operand around m) code)

-- Places.

abbrev pub temporary : NodeHead → Shape → Evaluates → Reaches
temporary h s evaluates around =
    made_entry s.in_destination NearestTemporary (entry_of h) (evaluates around false (Into h.id))

abbrev pub use_of_place : NodeHead → Shape → Reaches → Evaluates
use_of_place h s reaches around own to =
    in_own_scope h.id own (Then (reaches around)
    (deliver h.id (λ site. effects.Put site (operand_at h (s.place around.aliases))) to))

abbrev pub array_around : Place → Place
array_around place = record place { steps = before_element place.steps }

abbrev pub reach_element : NodeHead → Shape → NodeWords → NodeWords → ℕ → Reaches
reach_element h s base index count around =
    Then (base.reaches around)
    (Then (index.evaluates around false (Into index.head.id))
    (Then (Acts h.id (effects.Touch (site_at h (array_around (s.place around.aliases)))))
    (Acts index.head.id (effects.Bounds (effects.Copied (site_of_key index.head.id)) count))))

-- all of a borrow stands at the node of its base
abbrev pub borrowing : NodeHead → Bool → NodeWords → Evaluates
borrowing h unique base around own to =
    in_own_scope h.id own (Then (base.reaches around)
    (deliver_at base.head.id h.id
    (λ site. effects.Borrow (record site { node = base.head.id }) unique (site_of base around)) to))

abbrev pub unit_after : ℕ → Action → Destination → Code
unit_after id action to = Then (Acts id action) (put_unit id to)

-- what stands under the key is stored at a place, whose old value is dropped first where it needs it
abbrev pub replaces : Bool → EffectSite → ℕ → Code
replaces true site key = Replaces site key
replaces false site key = From (Takes (key ∷ [])) (Acts site.node (effects.Put site (moved site.node key)))

module _ (items : ItemTable) where
  abbrev pub assigning : NodeHead → NodeWords → NodeWords → Evaluates
  assigning h place value around own to =
      InScope h.id own (Then (operand around value)
      (Then (place.reaches around)
      (Then (replaces (needs_drop items place.head.ty) (site_of place around) value.head.id)
      (put_unit h.id to))))

-- Conditions, branches, patterns.

abbrev pub condition : LoopsAndGuards → NodeWords → Code → Code → Code
condition around m held otherwise =
    Then (alone around m (Into m.head.id)) (Branches m.head.id (IsTrue m.head.id) held otherwise)

abbrev pub branch : LoopsAndGuards → Destination → WordsIfAny → Code → Code
branch around to no_code without = without
branch around to (a_code m) without = alone around m to

-- a name takes its part
abbrev pub takes : BoundName → Code
takes b = Acts b.key (effects.Put (site_of_key b.key) (operand_of_bound b))

abbrev pub bind : ScopeAt → List BoundName → Code
bind at [] = Nothing
bind at (b ∷ bounds) = Then (takes b) (From (Enters at (bound_entry b)) (bind at bounds))

abbrev pub touched : Bool → EffectSite → Code
touched true site = Acts site.node (effects.Touch site)
touched false site = Nothing

abbrev pub scrutinised : LoopsAndGuards → NodeWords → Code
scrutinised around m = Then (m.reaches around) (touched m.shape.is_place (site_of m around))

-- a scrutinee is reached, in the scope of the names that it gives to a pattern
abbrev pub taken_if : ℕ → Code → PatternTests → List BoundName → Code → Code → Code
taken_if id reached tests bounds held otherwise =
    From (NewScope id true) (Then reached
    (Branches id (Passes tests) (Then (Then (bind Innermost bounds) held) Leaves) (Then Leaves otherwise)))

abbrev pub if_taken : NodeHead → LoopsAndGuards → NodeWords → NodeWords → Code → Code → Code
if_taken h around pattern scrutinee held otherwise =
    taken_if h.id (scrutinised around scrutinee) (pattern.shape.tests (place_in scrutinee around))
    (pattern.shape.bindings (place_in scrutinee around)) held otherwise

abbrev pub taken_arm : NodeHead → LoopsAndGuards → List BoundName → NodeWords → Destination → Code
taken_arm h around bounds m to = InScope h.id false (Then (bind Innermost bounds) (alone around m to))

abbrev pub guard : LoopsAndGuards → List BoundName → WordsIfAny → Guard
guard around bounds no_code = no_guard
guard around bounds (a_code m) = a_guard m.head.id (alone (in_guard bounds around) m (Into m.head.id))

abbrev pub arm : NodeHead → NodeWords → WordsIfAny → NodeWords → ArmOf
arm h pattern guarded m matched around to =
    let bounds = pattern.shape.bindings matched in
    Taken (pattern.shape.tests matched) (guard around bounds guarded) (taken_arm h around bounds m to)

abbrev pub arms : List NodeWords → Place → LoopsAndGuards → Destination → Arms
arms [] matched around to = no_arm
arms (m ∷ ms) matched around to = an_arm (m.arm matched around to) (arms ms matched around to)

abbrev pub matching : NodeHead → NodeWords → List NodeWords → Evaluates
matching h scrutinee ms around own to =
    in_own_scope h.id own (Then (scrutinised around scrutinee)
    (Matches h.id (arms ms (place_in scrutinee around) around to)))

-- Blocks and statements.

abbrev pub statements : LoopsAndGuards → List NodeWords → Code
statements around [] = Nothing
statements around (m ∷ ms) = Then (m.evaluates around false (Into m.head.id)) (statements around ms)

module _ (items : ItemTable) where
  abbrev pub tail_of : NodeHead → WordsIfAny → LoopsAndGuards → Destination → Code
  tail_of h no_code around to = put_unit_if (is_never items h.ty) h.id to
  tail_of h (a_code m) around to = alone around m to

  abbrev pub block : NodeHead → List NodeWords → WordsIfAny → Evaluates
  block h ms tail around own to =
      InScope h.id own (Then (statements around ms) (tail_of h tail around to))

abbrev pub evaluating : NodeHead → NodeWords → Reaches
evaluating h m around =
    InScope h.id true (made_entry true Innermost (entry_of m.head) (m.evaluates around false (Into m.head.id)))

abbrev pub let_name : NodeHead → NodeHead → NodeWords → Reaches
let_name h x m around =
    InScope h.id true (From (Pends Innermost (entry_of x))
    (Then (m.evaluates around false (Into x.id)) (Changes (Names (entry_of x)))))

abbrev pub let_parts : NodeHead → NodeWords → NodeWords → Reaches
let_parts h pattern m around =
    InScope h.id true
    (from_pending (not (m.shape.is_place || m.shape.in_destination)) Innermost (entry_of m.head)
    (Then (m.reaches around) (bind AroundInnermost (pattern.shape.bindings (place_in m around)))))

abbrev pub emptied : Bool → ℕ → Code
emptied true key = Nothing
emptied false key = Drops key

module _ (items : ItemTable) where
  abbrev pub declared : List BoundName → Code
  declared [] = Nothing
  declared (b ∷ bounds) =
      Then (emptied (needs_drop items b.ty) b.key) (From (Enters Innermost (bound_entry b)) (declared bounds))

  abbrev pub let_value : Bool → NodeHead → NodeWords → NodeWords → Reaches
  let_value true h pattern m = let_name h pattern.head m
  let_value false h pattern m = let_parts h pattern m

  abbrev pub letting : NodeHead → NodeWords → WordsIfAny → Reaches
  letting h pattern no_code around = declared (pattern.shape.bindings (whole_local 0))
  letting h pattern (a_code m) around = let_value pattern.shape.is_binding h pattern m around

-- Jumps.

abbrev pub value_of_jump : ℕ → WordsIfAny → LoopsAndGuards → Destination → Code
value_of_jump id no_code around to = put_unit id to
value_of_jump id (a_code m) around to = m.evaluates around false to

abbrev pub ends_loop : ℕ → Destination → Code
ends_loop id to = Then (put_unit id to) (Exits id (Breaks id))

abbrev pub body_in : NodeWords → LoopsAndGuards → Code
body_in m around = alone around m (Into m.head.id)

-- The forms.

-- what a form does: it makes a value, or is a statement or a pattern; it is a place, which is reached; it is an arm
pub data FormCode : Type 0 where
  Makes : (evaluates : Evaluates) → FormCode
  IsPlace : (reaches : Reaches) → FormCode
  IsArm : (arm : ArmOf) → FormCode

abbrev pub not_an_arm : ArmOf
not_an_arm matched around to = Empty

abbrev pub arm_by : FormCode → ArmOf
arm_by (Makes evaluates) = not_an_arm
arm_by (IsPlace reaches) = not_an_arm
arm_by (IsArm arm) = arm

abbrev pub does : Reaches → FormCode
does reaches = Makes (λ around own to. reaches around)

abbrev pub does_nothing : FormCode
does_nothing = does (λ around. Nothing)

abbrev pub a_scope : NodeHead → MakesInto → FormCode
a_scope h makes = Makes (λ around own to. in_own_scope h.id own (makes around to))

abbrev pub effect : NodeHead → (EffectSite → Action) → FormCode
effect h action = a_scope h (λ around. deliver h.id action)

abbrev pub on_operands : NodeHead → List NodeWords → (EffectSite → Action) → FormCode
on_operands h ms action = Makes (λ around own to. acting h.id around own ms (deliver h.id action to))

abbrev pub on_one : NodeHead → NodeWords → (EffectSite → Operand → Action) → FormCode
on_one h m action = on_operands h (m ∷ []) (λ site. action site (moved h.id m.head.id))

abbrev pub on_two : NodeHead → NodeWords → NodeWords → (EffectSite → Operand → Operand → Action) → FormCode
on_two h m m' action =
    on_operands h (m ∷ m' ∷ []) (λ site. action site (moved h.id m.head.id) (moved h.id m'.head.id))

abbrev pub on_all : NodeHead → List NodeWords → (EffectSite → List Operand → Action) → FormCode
on_all h ms action = on_operands h ms (λ site. action site (all_moved h.id ms))

abbrev pub gives_unit : NodeHead → NodeWords → (Operand → Action) → FormCode
gives_unit h m action =
    Makes (λ around own to.
    acting h.id around own (m ∷ []) (unit_after h.id (action (moved h.id m.head.id)) to))

abbrev pub shortcut : NodeHead → Bool → Destination → Code
shortcut h truth to = deliver h.id (λ site. effects.Put site (effects.Truth truth)) to

abbrev pub conjunction : NodeHead → NodeWords → NodeWords → MakesInto
conjunction h left right around to = condition around left (alone around right to) (shortcut h false to)

abbrev pub disjunction : NodeHead → NodeWords → NodeWords → MakesInto
disjunction h left right around to = condition around left (shortcut h true to) (alone around right to)

abbrev pub otherwise_unit : NodeHead → WordsIfAny → MakesInto
otherwise_unit h otherwise around to = branch around to otherwise (put_unit h.id to)

module _ (items : ItemTable) where
  -- what is made by a node of type `!` is made nowhere, and so under its own key
  abbrev pub made_in : NodeHead → Evaluates → Evaluates
  made_in h e around own to = e around own (to_own_key (is_never items h.ty) h.id to)

  abbrev pub evaluates_by : NodeHead → Shape → FormCode → Evaluates
  evaluates_by h s (Makes evaluates) = made_in h evaluates
  evaluates_by h s (IsPlace reaches) = made_in h (use_of_place h s reaches)
  evaluates_by h s (IsArm arm) = λ around own to. Nothing

  abbrev pub reaches_by : NodeHead → Shape → FormCode → Reaches
  reaches_by h s (IsPlace reaches) = reaches
  reaches_by h s does = temporary h s (evaluates_by h s does)

  -- a node, by what its form does
  abbrev pub node_code : NodeHead → Shape → FormCode → NodeWords
  node_code h s does = record {
    head = h;
    shape = s;
    evaluates = evaluates_by h s does;
    reaches = reaches_by h s does;
    arm = arm_by does;
  }

  abbrev mutual
    pub code : Node → NodeWords
    code (node id at ty by form) =
        node_code (head id ty by) (shape_of items form (head id ty by))
        (code_of_form form (head id ty by) (shape_of items form (head id ty by)))

    pub code_of_form : Form → NodeHead → Shape → FormCode
    code_of_form (tree.Number value) h s =
        effect h (λ site. effects.Put site (effects.Number value (kind_of items h.ty)))
    code_of_form (tree.Truth value) h s = effect h (λ site. effects.Put site (effects.Truth value))
    code_of_form tree.UnitValue h s = effect h (λ site. effects.Put site effects.UnitValue)
    code_of_form (tree.Variable key) h s = IsPlace (λ around. Nothing)
    code_of_form (tree.Captured closure part name) h s = IsPlace (λ around. Nothing)
    code_of_form (tree.Field base part) h s = IsPlace (code base).reaches
    code_of_form (tree.Index base index count) h s = IsPlace (reach_element h s (code base) (code index) count)
    code_of_form (tree.Deref base) h s = IsPlace (code base).reaches
    code_of_form (tree.Not operand) h s = on_one h (code operand) effects.Not
    code_of_form (tree.Negate operand) h s = on_one h (code operand) effects.Negate
    code_of_form (tree.Arithmetic operator left right) h s =
        on_two h (code left) (code right) (λ site. effects.Compute site operator)
    code_of_form (tree.Comparison operator left right) h s =
        on_two h (code left) (code right) (λ site. effects.Compare site operator)
    code_of_form (tree.And left right) h s = a_scope h (conjunction h (code left) (code right))
    code_of_form (tree.Or left right) h s = a_scope h (disjunction h (code left) (code right))
    code_of_form (tree.Assign place value) h s = Makes (assigning items h (code place) (code value))
    code_of_form (tree.Call body args) h s = on_all h (codes args) (λ site. effects.Call site body)
    code_of_form (tree.MethodCall body receiver args) h s =
        on_all h (code receiver ∷ codes args) (λ site. effects.Call site body)
    code_of_form (tree.VirtualCall trait_no method receiver args) h s =
        on_all h (code receiver ∷ codes args) (λ site. effects.CallVirtual site trait_no method)
    code_of_form (tree.ClosureCall body callee args) h s =
        on_all h (code callee ∷ codes args) (λ site. effects.Call site body)
    code_of_form (tree.Make adt variant fields) h s =
        on_operands h (codes_of_fields fields)
        (λ site. effects.Build site (OfVariant adt variant) (moved_fields h.id (in_number_order (field_keys fields))))
    code_of_form (tree.Tuple parts) h s = on_all h (codes parts) (λ site. effects.Build site OfTuple)
    code_of_form (tree.Array elements) h s = on_all h (codes elements) (λ site. effects.Build site OfArray)
    code_of_form (tree.Closure closure captures) h s =
        on_all h (codes captures) (λ site. effects.Build site (OfClosure closure))
    code_of_form (tree.NewBox content) h s = on_one h (code content) effects.NewBox
    code_of_form (tree.Print operand) h s = gives_unit h (code operand) effects.Print
    code_of_form tree.Ask h s = effect h effects.Ask
    code_of_form (tree.DropValue operand) h s =
        Makes (λ around own to. dropping h.id around own (code operand) (put_unit h.id to))
    code_of_form (tree.Forget operand) h s = gives_unit h (code operand) effects.Forget
    code_of_form tree.Panic h s = Makes (λ around own to. Panics h.id Why.Explicit)
    code_of_form (tree.Borrow unique base) h s = Makes (borrowing h unique (code base))
    code_of_form (tree.Unsize trait_no operand) h s =
        Makes (λ around own to. (code operand).evaluates around own (coerced (code operand).head.id trait_no to))
    code_of_form (tree.Block stmts tail) h s = Makes (block items h (codes stmts) (code_if_any tail))
    code_of_form (tree.Let pattern initialiser) h s =
        does (letting items h (code pattern) (code_if_any initialiser))
    code_of_form (tree.Evaluate expression) h s = does (evaluating h (code expression))
    code_of_form (tree.If c consequent otherwise) h s =
        a_scope h (λ around to.
        condition around (code c) (alone around (code consequent) to)
        (otherwise_unit h (code_if_any otherwise) around to))
    code_of_form (tree.IfLet pattern scrutinee consequent otherwise) h s =
        a_scope h (λ around to.
        if_taken h around (code pattern) (code scrutinee) (alone around (code consequent) to)
        (otherwise_unit h (code_if_any otherwise) around to))
    code_of_form (tree.Match scrutinee arms) h s = Makes (matching h (code scrutinee) (codes arms))
    code_of_form (tree.Arm pattern guarded m) h s = IsArm (arm h (code pattern) (code_if_any guarded) (code m))
    code_of_form (tree.Loop m) h s =
        a_scope h (λ around to. Loops h.id (body_in (code m) (in_loop h.id to around)))
    code_of_form (tree.While c m) h s =
        a_scope h (λ around to. Loops h.id
        (condition (in_loop h.id to around) (code c) (body_in (code m) (in_loop h.id to around)) (ends_loop h.id to)))
    code_of_form (tree.WhileLet pattern scrutinee m) h s =
        a_scope h (λ around to. Loops h.id
        (if_taken h (in_loop h.id to around) (code pattern) (code scrutinee)
        (body_in (code m) (in_loop h.id to around)) (ends_loop h.id to)))
    code_of_form (tree.Break loop value) h s =
        a_scope h (λ around to.
        Then (value_of_jump h.id (code_if_any value) around (loop_destination loop around.loops))
        (Exits h.id (Breaks loop)))
    code_of_form (tree.Continue loop) h s = does (λ around. Then Nothing (Exits h.id (Continues loop)))
    code_of_form (tree.Return value) h s =
        a_scope h (λ around to.
        Then (value_of_jump h.id (code_if_any value) around around.answer) (Exits h.id Returns))
    code_of_form tree.Wildcard h s = does_nothing
    code_of_form (tree.Binding name) h s = does_nothing
    code_of_form (tree.NumberPattern value) h s = does_nothing
    code_of_form (tree.TruthPattern value) h s = does_nothing
    code_of_form (tree.StructPattern fields) h s = does_nothing
    code_of_form (tree.VariantPattern variant is_test fields) h s = does_nothing
    code_of_form (tree.TuplePattern parts) h s = does_nothing
    code_of_form (tree.ArrayPattern elements) h s = does_nothing
    code_of_form (tree.OrPattern alternatives) h s = does_nothing

    pub codes : Nodes → List NodeWords
    codes no_node = []
    codes (a_node first rest) = code first ∷ codes rest

    pub codes_of_fields : Fields → List NodeWords
    codes_of_fields no_field = []
    codes_of_fields (a_field number value rest) = code value ∷ codes_of_fields rest

    pub code_if_any : MaybeNode → WordsIfAny
    code_if_any absent = no_code
    code_if_any (present value) = a_code (code value)

  -- Bodies.

  abbrev pub names_of_param : Bool → List BoundName → Code
  names_of_param true bounds = Nothing
  names_of_param false bounds = bind Innermost bounds

  abbrev pub params_entered : List ParamTree → Code
  params_entered [] = Nothing
  params_entered (param ∷ params) =
      From (Enters Innermost (record { key = param_key param; ty = param.ty }))
      (Then (names_of_param (shape items param.pattern).is_binding
      ((shape items param.pattern).bindings (whole_local (param_key param))))
      (params_entered params))

  abbrev pub around_body : BodyTree → LoopsAndGuards
  around_body body = record { answer = Into (answer_key body); loops = []; aliases = [] }

  -- a body, with the scope of its entire function
  abbrev pub entire_function : BodyTree → Code
  entire_function body =
      InScope (answer_key body) true (Then (params_entered body.params)
      ((code body.block).evaluates (around_body body) false (Into (answer_key body))))
