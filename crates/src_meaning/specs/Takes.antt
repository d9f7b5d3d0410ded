-- Whether a pattern takes a value, by cases on the pattern (The Rust Reference, "Patterns"), and what the single tests
-- of the rules say of it.
use Rattle.std.specs.Prelude.{◌≡◌, ℕ, suc, ◌==◌, Bool, true, false, not, ◌&&◌, ◌||◌, IsTrue, Option, Some, None, if◌then◌else◌}
use Rattle.mir_base.specs.declared.operator.Cmp.{Cmp}
use Rattle.mir_ty.specs.ItemTable.{ItemTable}
use Rattle.store_model.specs.Concrete.Effects.{compared}
use Rattle.store_model.specs.Values.Datum.{Datum, Number, Truth, Aggregate}
use Rattle.store_model.specs.declared.address.At.TheVariants.{Part}
use Rattle.store_model.specs.Effects.{Choice, Yes, No, Effects}
use Rattle.store_model.specs.Places.Place.{Step, ToPart, ToField, Place}
use Rattle.store_model.specs.Values.Access.{part}
use Rattle.store_model.specs.Concrete.State.{State}
use Rattle.typed_tree.specs.Tree as tree
use Rattle.typed_tree.specs.Tree.{Node, node, Form, Nodes, no_node, a_node, Fields, no_field, a_field}
use Rattle.src_meaning.specs.Forms.{holds, all_hold}
use Rattle.src_meaning.specs.Shape.{extended, PatternTest, IsVariant, IsNumber, IsTruth, AnyOf, PatternTests, no_test, a_test, Alternatives, no_alternative, an_alternative, shape}

abbrev said : Option Bool → Bool
said (Some answer) = answer
said None = false

-- what stands somewhere, if anything does, against a literal and a variant
abbrev pub is_equal : Option Datum → Datum → Bool
is_equal (Some value) literal = said (compared Cmp.Eq value literal)
is_equal None literal = false

abbrev pub is_of_variant : ℕ → Option Datum → Bool
is_of_variant variant (Some (Aggregate active serial parts)) = variant == active
is_of_variant variant value = false

-- the part of a value to which a step of a pattern leads
abbrev pub part_at : Step → Option Datum → Option Datum
part_at (ToPart n) (Some value) = part (Part n) value
part_at (ToField variant n) (Some (Aggregate active serial parts)) =
    if variant == active then part (Part n) (Aggregate active serial parts) else None
part_at step value = None

abbrev mutual
  -- a pattern takes a value
  pub takes : Node → Option Datum → Bool
  takes (node id at ty by form) value = takes_by form value

  pub takes_by : Form → Option Datum → Bool
  takes_by (tree.NumberPattern number) value = is_equal value (Number number)
  takes_by (tree.TruthPattern truth) value = is_equal value (Truth truth)
  takes_by (tree.StructPattern fields) value = takes_fields fields ToPart value
  takes_by (tree.VariantPattern variant is_test fields) value =
      (not is_test || is_of_variant variant value) && takes_fields fields (ToField variant) value
  takes_by (tree.TuplePattern parts) value = takes_parts parts 0 value
  takes_by (tree.ArrayPattern elements) value = takes_parts elements 0 value
  takes_by (tree.OrPattern alternatives) value = any_takes alternatives value
  takes_by form value = true

  pub takes_fields : Fields → (ℕ → Step) → Option Datum → Bool
  takes_fields no_field step value = true
  takes_fields (a_field number pattern rest) step value =
      takes pattern (part_at (step number) value) && takes_fields rest step value

  pub takes_parts : Nodes → ℕ → Option Datum → Bool
  takes_parts no_node n value = true
  takes_parts (a_node first rest) n value = takes first (part_at (ToPart n) value) && takes_parts rest (suc n) value

  pub any_takes : Nodes → Option Datum → Bool
  any_takes no_node value = false
  any_takes (a_node first rest) value = takes first value || any_takes rest value

-- what stands at the places that patterns name
abbrev pub View : Type 0
View = Place → Option Datum

-- below a place stand the parts of what stands there
abbrev pub HasParts : View → Type 0
HasParts view = (step : Step) (place : Place) → view (extended step place) ≡ part_at step (view place)

-- a test is answered as it should be, and the state stays a good one
abbrev pub Answers : (State → Bool) → Bool → Choice State → Type 0
Answers good true (Yes w) = IsTrue (good w)
Answers good false (No w) = IsTrue (good w)
Answers good expected choice = ⊥

module _ (items : ItemTable) (p : Effects State) (view : View) (good : State → Bool) where
  abbrev pub AnswersTest : Bool → PatternTest → Type 0
  AnswersTest expected test = (w : State) → IsTrue (good w) → Answers good expected (holds items p test w)

  abbrev mutual
    -- the effects answer each single test of some tests by what stands there
    pub Truthful : PatternTest → Type 0
    Truthful (IsVariant site variant) = AnswersTest (is_of_variant variant (view site.place)) (IsVariant site variant)
    Truthful (IsNumber site value kind) =
        AnswersTest (is_equal (view site.place) (Number value)) (IsNumber site value kind)
    Truthful (IsTruth site value) = AnswersTest (is_equal (view site.place) (Truth value)) (IsTruth site value)
    Truthful (AnyOf alternatives) = AnyTruthful alternatives

    pub AllTruthful : PatternTests → Type 0
    AllTruthful no_test = Unit {0}
    AllTruthful (a_test first rest) = Truthful first × AllTruthful rest

    pub AnyTruthful : Alternatives → Type 0
    AnyTruthful no_alternative = Unit {0}
    AnyTruthful (an_alternative tests rest) = AllTruthful tests × AnyTruthful rest

-- Where each single test of a pattern at a place is answered by what stands there, all of them hold exactly where the
-- pattern takes what stands at the place.
abbrev pub TestsHoldWhereTaken : Type 0
TestsHoldWhereTaken =
    (items : ItemTable) (p : Effects State) (view : View) (good : State → Bool) (pattern : Node) (place : Place)
    (w : State) → HasParts view → AllTruthful items p view good ((shape items pattern).tests place) → IsTrue (good w) →
    Answers good (takes pattern (view place)) (all_hold items p ((shape items pattern).tests place) w)
