-- What a node changes lies within what may be changed, by its text alone: the cells of its nodes, the places out of
-- which
-- it moves, into which it stores, and which it borrows by `&mut`. One line a form.
use Rattle.std.proofs.Common.{◌≡◌, ℕ, ◌==◌, ◌||◌, Bool, true, false, List, [], ◌∷◌, refl}
use Rattle.std.specs.List.{list_any}
use Rattle.mir_ty.specs.ItemTable.{ItemTable}
use Rattle.store_model.specs.Places.Place.{Place, whole_local}
use Rattle.typed_tree.specs.Tree as tree
use Rattle.typed_tree.specs.Tree.{Node, node, Form, Nodes, no_node, a_node, Fields, no_field, a_field, MaybeNode, absent, present}
use Rattle.src_meaning.specs.Forms.{Destination, Into, Coerced, LoopsAndGuards, aliases_with, loop_destination}
use Rattle.src_meaning.specs.Locals.OfBody.{is_place_form}
use Rattle.src_meaning.specs.Shape.{Aliases, head, operand_at, shape, shape_of}
use Rattle.well_typed.specs.Places.{form_of, is_borrow}
use Rattle.soundness_frame.proofs.PassFrameActs.{Takes, DestSo, TestsOwn, BoundsMay, AllCells}

abbrev pub is_among : ℕ → List ℕ → Bool
is_among loop loops = list_any (λ l. loop == l) loops

-- the loops around a node; and the keys of the cells into which values of nodes around it go: the numbers of these
-- nodes, and the names to which `let` gives values
pub record Outer : Type 0 where
  pub loops : List ℕ
  pub keys : List ℕ

-- inside a node, and inside a loop
abbrev pub passing : ℕ → Outer → Outer
passing id o = record o { keys = id ∷ o.keys }

abbrev pub looping : ℕ → Outer → Outer
looping id o = record o { loops = id ∷ o.loops }

abbrev pub outermost : Outer
outermost = record { loops = []; keys = [] }

abbrev pub if_place : Bool → Type 0 → Type 0
if_place true P = P
if_place false P = Unit {0}

-- a node that hands its destination to nodes inside, or to its own loop
abbrev pub carries : Form → Bool
carries (tree.And left right) = true
carries (tree.Or left right) = true
carries (tree.Block statements tail) = true
carries (tree.If condition body otherwise) = true
carries (tree.IfLet pattern scrutinee body otherwise) = true
carries (tree.Match scrutinee arms) = true
carries (tree.Loop body) = true
carries (tree.While condition body) = true
carries (tree.WhileLet pattern scrutinee body) = true
carries form = false

-- a destination is in such cells
abbrev pub DestIn : List ℕ → Destination → Type 0
DestIn keys (Into key) = is_among key keys ≡ true
DestIn keys (Coerced key trait_no to) = (is_among key keys ≡ true) × (is_among to keys ≡ true)

-- so are those of the result and of the loops around
abbrev pub KeysAround : LoopsAndGuards → Outer → Type 0
KeysAround around o = DestIn o.keys around.answer
    × ((loop : ℕ) → is_among loop o.loops ≡ true → DestIn o.keys (loop_destination loop around.loops))

-- the destinations of the result and of the loops around may be stored into
abbrev pub DestsAround : (Store Coerce : Place → Type 0) → LoopsAndGuards → Outer → Type 0
DestsAround Store Coerce around o = DestSo Store Coerce around.answer
    × ((loop : ℕ) → is_among loop o.loops ≡ true → DestSo Store Coerce (loop_destination loop around.loops))

abbrev pub AroundSo : (Store Coerce : Place → Type 0) → LoopsAndGuards → Outer → Type 0
AroundSo Store Coerce around o = DestsAround Store Coerce around o × KeysAround around o

abbrev pub Around : (Place → Type 0) → LoopsAndGuards → Outer → Type 0
Around May around o = AroundSo May May around o

-- among more keys
pub also_among : (id : ℕ) (keys : List ℕ) (key : ℕ) → is_among key keys ≡ true → is_among key (id ∷ keys) ≡ true
also_among id keys key d = either (key == id) (is_among key keys) d
  where
    either : (b c : Bool) → c ≡ true → (b || c) ≡ true
    either true c e = refl
    either false c e = e

pub further_in : (id : ℕ) (keys : List ℕ) (to : Destination) → DestIn keys to → DestIn (id ∷ keys) to
further_in id keys (Into key) d = also_among id keys key d
further_in id keys (Coerced key trait_no to) d = (also_among id keys key d.0, also_among id keys to d.1)

pub further : (Store Coerce : Place → Type 0) (around : LoopsAndGuards) (o : Outer) (id : ℕ) →
    AroundSo Store Coerce around o → AroundSo Store Coerce around (passing id o)
further Store Coerce around o id a = (
  a.0,
  (
    further_in id o.keys around.answer a.1.0,
    λ loop i. further_in id o.keys (loop_destination loop around.loops)
        (a.1.1 loop i),
  ),
)

-- no borrow: of a node whose value is made elsewhere than in its own cell
abbrev pub Loose : Node → Type 0
Loose n = is_borrow (form_of n) ≡ false

-- beside that, what is said of calls, borrows and assignments
module _ (items : ItemTable) (May : Place → Type 0) (Says : Aliases → Outer → ℕ → Form → Type 0) where
  abbrev Cell : ℕ → Type 0
  Cell key = May (whole_local key)

  -- a pattern that is matched with what stands at a place
  abbrev pub Matches : Node → Place → Type 0
  Matches pattern place =
      TestsOwn May ((shape items pattern).tests place) × BoundsMay May ((shape items pattern).bindings place)

  -- of a node that is evaluated, with these bindings of guards and these loops around it; of one that is reached as a
  -- place, which is not used
  abbrev mutual
    pub Within : Aliases → Outer → Node → Type 0
    Within aliases loops (node id at ty by form) =
        Cell id
        × (if_place (is_place_form form)
        (Takes May (operand_at (head id ty by) ((shape_of items form (head id ty by)).place aliases)))
        × WithinIn aliases loops id form)

    pub Reaching : Aliases → Outer → Node → Type 0
    Reaching aliases loops (node id at ty by form) = Cell id × WithinIn aliases loops id form

    pub WithinIn : Aliases → Outer → ℕ → Form → Type 0
    WithinIn aliases loops id (tree.Field base part) = Reaching aliases (passing id loops) base
    WithinIn aliases loops id (tree.Index base index length) =
        Reaching aliases (passing id loops) base × Within aliases (passing id loops) index
    WithinIn aliases loops id (tree.Deref base) = Reaching aliases (passing id loops) base
    WithinIn aliases loops id (tree.Not operand) = Within aliases (passing id loops) operand
    WithinIn aliases loops id (tree.Negate operand) = Within aliases (passing id loops) operand
    WithinIn aliases loops id (tree.Arithmetic operator left right) =
        Within aliases (passing id loops) left × Within aliases (passing id loops) right
    WithinIn aliases loops id (tree.Comparison operator left right) =
        Within aliases (passing id loops) left × Within aliases (passing id loops) right
    WithinIn aliases loops id (tree.And left right) =
        Within aliases (passing id loops) left × (Loose right × Within aliases (passing id loops) right)
    WithinIn aliases loops id (tree.Or left right) =
        Within aliases (passing id loops) left × (Loose right × Within aliases (passing id loops) right)
    WithinIn aliases loops id (tree.Assign place value) =
        (Within aliases (passing id loops) value × (Reaching aliases (passing id loops) place × May ((shape items
        place).place aliases)))
        × Says aliases loops id (tree.Assign place value)
    WithinIn aliases loops id (tree.Call body args) = AllWithin aliases (passing id loops) args × Says aliases loops id
        (tree.Call body args)
    WithinIn aliases loops id (tree.MethodCall body receiver args) =
        (Within aliases (passing id loops) receiver × AllWithin aliases (passing id loops) args)
        × Says aliases loops id (tree.MethodCall body receiver args)
    WithinIn aliases loops id (tree.VirtualCall trait_no method receiver args) =
        (Within aliases (passing id loops) receiver × AllWithin aliases (passing id loops) args)
        × Says aliases loops id (tree.VirtualCall trait_no method receiver args)
    WithinIn aliases loops id (tree.ClosureCall body callee args) =
        (Within aliases (passing id loops) callee × AllWithin aliases (passing id loops) args)
        × Says aliases loops id (tree.ClosureCall body callee args)
    WithinIn aliases loops id (tree.Make adt variant fields) = FieldsWithin aliases (passing id loops) fields
    WithinIn aliases loops id (tree.Tuple parts) = AllWithin aliases (passing id loops) parts
    WithinIn aliases loops id (tree.Array elements) = AllWithin aliases (passing id loops) elements
    WithinIn aliases loops id (tree.Closure closure captures) = AllWithin aliases (passing id loops) captures
    WithinIn aliases loops id (tree.NewBox content) = Within aliases (passing id loops) content
    WithinIn aliases loops id (tree.Print operand) = Within aliases (passing id loops) operand
    WithinIn aliases loops id (tree.DropValue operand) = Within aliases (passing id loops) operand
    WithinIn aliases loops id (tree.Forget operand) = Within aliases (passing id loops) operand
    WithinIn aliases loops id (tree.Borrow unique base) =
        (Reaching aliases (passing id loops) base × (unique ≡ true → May ((shape items base).place aliases)))
        × Says aliases loops id (tree.Borrow unique base)
    WithinIn aliases loops id (tree.Unsize trait_no operand) =
        (Loose operand × Within aliases (passing id loops) operand) × (carries (form_of operand) ≡ false)
    WithinIn aliases loops id (tree.Block statements tail) =
        AllWithin aliases (passing id loops) statements × LooseIfAny aliases (passing id loops) tail
    WithinIn aliases loops id (tree.Let pattern absent) = AllCells May ((shape items pattern).bindings (whole_local 0))
    WithinIn aliases loops id (tree.Let (node pid pat pty pby (tree.Binding name)) (present value)) =
        Cell pid × (Loose value × Within aliases (passing pid (passing id loops)) value)
    WithinIn aliases loops id (tree.Let pattern (present value)) =
        Reaching aliases (passing id loops) value
        × BoundsMay May ((shape items pattern).bindings ((shape items value).place aliases))
    WithinIn aliases loops id (tree.Evaluate expression) = Within aliases (passing id loops) expression
    WithinIn aliases loops id (tree.If condition body otherwise) =
        Within aliases (passing id loops) condition
        × ((Loose body × Within aliases (passing id loops) body) × LooseIfAny aliases (passing id loops) otherwise)
    WithinIn aliases loops id (tree.IfLet pattern scrutinee body otherwise) =
        (Reaching aliases (passing id loops) scrutinee × Matches pattern ((shape items scrutinee).place aliases))
        × ((Loose body × Within aliases (passing id loops) body) × LooseIfAny aliases (passing id loops) otherwise)
    WithinIn aliases loops id (tree.Match scrutinee arms) =
        Reaching aliases (passing id loops) scrutinee × ArmsWithin aliases (passing id loops) ((shape items
        scrutinee).place aliases) arms
    WithinIn aliases loops id (tree.Loop body) = Within aliases (looping id (passing id loops)) body
    WithinIn aliases loops id (tree.While condition body) =
        Within aliases (looping id (passing id loops)) condition × Within aliases (looping id (passing id loops)) body
    WithinIn aliases loops id (tree.WhileLet pattern scrutinee body) =
        (Reaching aliases (looping id (passing id loops)) scrutinee × Matches pattern ((shape items scrutinee).place
        aliases))
        × Within aliases (looping id (passing id loops)) body
    WithinIn aliases loops id (tree.Break loop value) =
        (is_among loop loops.loops ≡ true) × LooseIfAny aliases (passing id loops) value
    WithinIn aliases loops id (tree.Return value) = LooseIfAny aliases (passing id loops) value
    WithinIn aliases loops id form = Unit {0}

    pub AllWithin : Aliases → Outer → Nodes → Type 0
    AllWithin aliases loops no_node = Unit {0}
    AllWithin aliases loops (a_node first rest) = Within aliases loops first × AllWithin aliases loops rest

    pub FieldsWithin : Aliases → Outer → Fields → Type 0
    FieldsWithin aliases loops no_field = Unit {0}
    FieldsWithin aliases loops (a_field number value rest) =
        Within aliases loops value × FieldsWithin aliases loops rest

    pub WithinIfAny : Aliases → Outer → MaybeNode → Type 0
    WithinIfAny aliases loops absent = Unit {0}
    WithinIfAny aliases loops (present value) = Within aliases loops value

    pub LooseIfAny : Aliases → Outer → MaybeNode → Type 0
    LooseIfAny aliases loops absent = Unit {0}
    LooseIfAny aliases loops (present value) = Loose value × Within aliases loops value

    pub ArmsWithin : Aliases → Outer → Place → Nodes → Type 0
    ArmsWithin aliases loops matched no_node = Unit {0}
    ArmsWithin aliases loops matched (a_node first rest) =
        ArmWithin aliases loops matched first × ArmsWithin aliases loops matched rest

    pub ArmWithin : Aliases → Outer → Place → Node → Type 0
    ArmWithin aliases loops matched (node id at ty by (tree.Arm pattern guard body)) =
        Matches pattern matched
        × (WithinIfAny (aliases_with ((shape items pattern).bindings matched) aliases) loops guard
        × (Loose body × Within aliases loops body))
    ArmWithin aliases loops matched other = Unit {0}
