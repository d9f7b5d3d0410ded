-- What a node is by its form alone: a place, a value, or a pattern with its tests and its bindings (The Rust
-- Reference, "Expressions", "Place Expressions and Value Expressions", and "Patterns").
use Rattle.std.specs.Prelude.{unwrap_or, ℕ, suc, ◌==◌, ℤ, Bool, true, false, List, [], ◌∷◌, ◌++◌, Option, Some, if◌then◌else◌}
use Rattle.mir_base.specs.declared.int_kind.IntKind.{IntKind}
use Rattle.mir_ty.specs.declared.ty.TyId.{TyId}
use Rattle.mir_ty.specs.ItemTable.{ItemTable, type_at}
use Rattle.store_model.specs.Effects.{EffectSite, Operand, Copied, Moved}
use Rattle.store_model.specs.Places.Place.{Step, ToPart, ToField, ToContent, ToElement, Place, whole_local}
use Rattle.store_model.specs.Places.TypeForms.{int_kind}
use Rattle.typed_tree.specs.declared.node.Use.{Use}
use Rattle.typed_tree.specs.Nodes.{number_of}
use Rattle.typed_tree.specs.Tree as tree
use Rattle.typed_tree.specs.Tree.{Node, node, Form, Nodes, no_node, a_node, Fields, no_field, a_field}

-- a node's number, type and use
pub record NodeHead : Type 0 where
  pub id : ℕ
  pub ty : TyId
  pub by : Option Use

abbrev pub head : ℕ → TyId → Option Use → NodeHead
head id ty by = record { id = id; ty = ty; by = by }

-- Inside a guard the name of a binding of its arm stands for the part that the binding would take.
abbrev pub Aliases : Type 0
Aliases = List (ℕ × Place)

abbrev pub place_of_key : ℕ → Aliases → Place
place_of_key key [] = whole_local key
place_of_key key (a ∷ aliases) = if key == a.0 then a.1 else place_of_key key aliases

abbrev pub extended : Step → Place → Place
extended step place = record place { steps = place.steps ++ step ∷ [] }

-- The tests of a pattern in the order in which they are made. All have to hold; of alternatives one has to.
mutual
  pub data PatternTest : Type 0 where
    IsVariant : (site : EffectSite) (variant : ℕ) → PatternTest
    IsNumber : (site : EffectSite) (value : ℤ) (kind : IntKind) → PatternTest
    IsTruth : (site : EffectSite) (value : Bool) → PatternTest
    AnyOf : (alternatives : Alternatives) → PatternTest

  pub data PatternTests : Type 0 where
    no_test : PatternTests
    a_test : (first : PatternTest) (rest : PatternTests) → PatternTests

  pub data Alternatives : Type 0 where
    no_alternative : Alternatives
    an_alternative : (tests : PatternTests) (rest : Alternatives) → Alternatives

abbrev pub followed_by : PatternTests → PatternTests → PatternTests
followed_by no_test more = more
followed_by (a_test test rest) more = a_test test (followed_by rest more)

-- a name of a pattern: the entry that it makes, and the part that it moves or copies into it
pub record BoundName : Type 0 where
  pub key : ℕ
  pub ty : TyId
  pub takes : Bool
  pub site : EffectSite

pub record Shape : Type 0 where
  pub is_place : Bool
  pub in_destination : Bool  -- a block, branch or loop, whose value is made in a destination that is pending
  pub is_binding : Bool  -- a pattern that is one name
  pub place : Aliases → Place  -- a value stands in a temporary under its own number
  pub tests : Place → PatternTests
  pub bindings : Place → List BoundName

abbrev pub site_at : NodeHead → Place → EffectSite
site_at h place = record { node = h.id; place = place }

-- a place whose value is used is copied or moved
abbrev pub moves : Option Use → Bool
moves (Some Use.Move) = true
moves by = false

abbrev pub copied_or_moved : Bool → EffectSite → Operand
copied_or_moved true site = Moved site
copied_or_moved false site = Copied site

-- what a name of a pattern takes
abbrev pub operand_of_bound : BoundName → Operand
operand_of_bound b = copied_or_moved b.takes b.site

-- a place whose value is used is copied or moved
abbrev pub operand_at : NodeHead → Place → Operand
operand_at h place = copied_or_moved (moves h.by) (site_at h place)

-- the integer type of a literal, which has one in a typed program
abbrev pub kind_of : ItemTable → TyId → IntKind
kind_of items id = unwrap_or (int_kind (type_at items id)) IntKind.I32

abbrev a_value : NodeHead → Shape
a_value h = record {
  is_place = false;
  in_destination = false;
  is_binding = false;
  place = λ aliases. whole_local h.id;
  tests = λ place. no_test;
  bindings = λ place. [];
}

abbrev a_value_in_destination : NodeHead → Shape
a_value_in_destination h = record (a_value h) { in_destination = true }

abbrev a_place : NodeHead → (Aliases → Place) → Shape
a_place h place = record (a_value h) { is_place = true; place = place }

-- a part of a place
abbrev a_part : NodeHead → (Aliases → Place) → Step → Shape
a_part h base step = a_place h (λ aliases. extended step (base aliases))

abbrev a_pattern : NodeHead → (Place → PatternTests) → (Place → List BoundName) → Shape
a_pattern h tests bindings = record (a_value h) { tests = tests; bindings = bindings }

abbrev a_test_alone : NodeHead → (EffectSite → PatternTest) → Shape
a_test_alone h test = record (a_value h) { tests = λ place. a_test (test (site_at h place)) no_test }

abbrev a_binding : NodeHead → Shape
a_binding h = record (a_value h) {
  is_binding = true;
  bindings = λ place. (record { key = h.id; ty = h.ty; takes = moves h.by; site = site_at h place }) ∷ [];
}

-- patterns of parts, one after the other, each at its part
pub record Parts : Type 0 where
  pub tests : Place → PatternTests
  pub bindings : Place → List BoundName

abbrev no_parts : Parts
no_parts = record { tests = λ place. no_test; bindings = λ place. [] }

abbrev part_then : Step → Shape → Parts → Parts
part_then step one rest = record {
  tests = λ place. followed_by (one.tests (extended step place)) (rest.tests place);
  bindings = λ place. one.bindings (extended step place) ++ rest.bindings place;
}

abbrev of_parts : NodeHead → Parts → Shape
of_parts h parts = a_pattern h parts.tests parts.bindings

-- a variant of an enum with more than one is tested before its parts
abbrev variant_test : Bool → EffectSite → ℕ → PatternTests → PatternTests
variant_test true site variant rest = a_test (IsVariant site variant) rest
variant_test false site variant rest = rest

abbrev of_variant : NodeHead → Bool → ℕ → Parts → Shape
of_variant h is_test variant parts =
    a_pattern h (λ place. variant_test is_test (site_at h place) variant (parts.tests place)) parts.bindings

abbrev of_alternatives : NodeHead → (Place → Alternatives) → Shape
of_alternatives h alternatives = a_pattern h (λ place. a_test (AnyOf (alternatives place)) no_test) (λ place. [])

module _ (items : ItemTable) where
  abbrev mutual
    pub shape : Node → Shape
    shape (node id at ty by form) = shape_of form (head id ty by)

    pub shape_of : Form → NodeHead → Shape
    shape_of (tree.Number value) h = a_value h
    shape_of (tree.Truth value) h = a_value h
    shape_of tree.UnitValue h = a_value h
    shape_of (tree.Variable key) h = a_place h (place_of_key key)
    shape_of (tree.Captured closure part name) h = a_part h (place_of_key closure) (ToPart part)
    shape_of (tree.Field base part) h = a_part h (shape base).place (ToPart part)
    shape_of (tree.Index base index length) h = a_part h (shape base).place (ToElement (number_of index))
    shape_of (tree.Deref base) h = a_part h (shape base).place ToContent
    shape_of (tree.Not operand) h = a_value h
    shape_of (tree.Negate operand) h = a_value h
    shape_of (tree.Arithmetic operator left right) h = a_value h
    shape_of (tree.Comparison operator left right) h = a_value h
    shape_of (tree.And left right) h = a_value h
    shape_of (tree.Or left right) h = a_value h
    shape_of (tree.Assign place value) h = a_value h
    shape_of (tree.Call body args) h = a_value h
    shape_of (tree.MethodCall body receiver args) h = a_value h
    shape_of (tree.VirtualCall trait_no method receiver args) h = a_value h
    shape_of (tree.ClosureCall body callee args) h = a_value h
    shape_of (tree.Make adt variant fields) h = a_value h
    shape_of (tree.Tuple parts) h = a_value h
    shape_of (tree.Array elements) h = a_value h
    shape_of (tree.Closure closure captures) h = a_value h
    shape_of (tree.NewBox content) h = a_value h
    shape_of (tree.Print operand) h = a_value h
    shape_of tree.Ask h = a_value h
    shape_of (tree.DropValue operand) h = a_value h
    shape_of (tree.Forget operand) h = a_value h
    shape_of tree.Panic h = a_value h
    shape_of (tree.Borrow unique base) h = a_value h
    shape_of (tree.Unsize trait_no operand) h = a_value h
    shape_of (tree.Block statements tail) h = a_value_in_destination h
    shape_of (tree.Let pattern initialiser) h = a_value h
    shape_of (tree.Evaluate expression) h = a_value h
    shape_of (tree.If condition consequent otherwise) h = a_value_in_destination h
    shape_of (tree.IfLet pattern scrutinee consequent otherwise) h = a_value_in_destination h
    shape_of (tree.Match scrutinee arms) h = a_value_in_destination h
    shape_of (tree.Arm pattern guard body) h = a_value h
    shape_of (tree.Loop body) h = a_value_in_destination h
    shape_of (tree.While condition body) h = a_value_in_destination h
    shape_of (tree.WhileLet pattern scrutinee body) h = a_value_in_destination h
    shape_of (tree.Break loop value) h = a_value h
    shape_of (tree.Continue loop) h = a_value h
    shape_of (tree.Return value) h = a_value h
    shape_of tree.Wildcard h = a_value h
    shape_of (tree.Binding name) h = a_binding h
    shape_of (tree.NumberPattern value) h = a_test_alone h (λ site. IsNumber site value (kind_of items h.ty))
    shape_of (tree.TruthPattern value) h = a_test_alone h (λ site. IsTruth site value)
    shape_of (tree.StructPattern fields) h = of_parts h (in_fields fields ToPart)
    shape_of (tree.VariantPattern variant is_test fields) h =
        of_variant h is_test variant (in_fields fields (ToField variant))
    shape_of (tree.TuplePattern parts) h = of_parts h (in_parts parts 0)
    shape_of (tree.ArrayPattern elements) h = of_parts h (in_parts elements 0)
    shape_of (tree.OrPattern alternatives) h = of_alternatives h (alternatives_at alternatives)

    -- the fields of a pattern, each at the step to it
    pub in_fields : Fields → (ℕ → Step) → Parts
    in_fields no_field step = no_parts
    in_fields (a_field number value rest) step = part_then (step number) (shape value) (in_fields rest step)

    pub in_parts : Nodes → ℕ → Parts
    in_parts no_node n = no_parts
    in_parts (a_node first rest) n = part_then (ToPart n) (shape first) (in_parts rest (suc n))

    pub alternatives_at : Nodes → Place → Alternatives
    alternatives_at no_node place = no_alternative
    alternatives_at (a_node first rest) place = an_alternative ((shape first).tests place) (alternatives_at rest place)
