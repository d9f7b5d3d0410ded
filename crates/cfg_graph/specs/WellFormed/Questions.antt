-- What the code asks of types and of lines, in the words of the definition.
use Rattle.std.specs.Prelude.{◌≡◌, ℕ, zero, suc, nat_lt, Bool, true, false, not, List, [], ◌∷◌, Option, Some, None, length, slice_get}
use Rattle.std.specs.List.{list_all}
use Rattle.std.specs.Option.{option_map_or}
use Rattle.mir_base.specs.declared.int_kind.IntKind.{IntKind}
use Rattle.mir_ty.specs.declared.ty.Ty.{Ty}
use Rattle.mir_ty.specs.declared.ty.TyId.{TyId}
use Rattle.mir_ty.specs.Facts.{Rule, by_rule}
use Rattle.mir_ty.specs.Known.{known_by}
use Rattle.mir_ty.specs.ItemTable.{ItemTable}
use Rattle.mir_ty.specs.Parts.{held_by}
use Rattle.store_model.specs.Places.TypeForms.{is_int, is_adt, is_closure}
use Rattle.cfg_graph.specs.declared.type_faults.Question.{Question}
use Rattle.cfg_graph.specs.declared.type_faults.TypeTests.{TypeTests}
use Rattle.cfg_graph.specs.declared.line_places.PlaceTest.{PlaceTest}
use Rattle.cfg_graph.specs.declared.edge_faults.EdgeTest.{EdgeTest}
use Rattle.cfg_graph.specs.declared.place.Place.{Place}
use Rattle.cfg_graph.specs.declared.place.Operand.{Operand}
use Rattle.cfg_graph.specs.Places.{index_locals, place_of}
use Rattle.cfg_graph.specs.Edges.{is_cleanup, lowers}
use Rattle.cfg_graph.specs.declared.graph.Block.{Block}
use Rattle.cfg_graph.specs.declared.graph.Body.{Body}
use Rattle.cfg_graph.specs.WellFormed.Typing.{is_typed_place}
use Rattle.cfg_graph.specs.WellFormed.TypeFaults.{existing, misplacing, holding}

-- all that a type holds is finite: no way to what it holds, and on, is without an end
abbrev pub finite : ItemTable → Rule
finite items known ty = list_all known (held_by items ty)

abbrev pub rule_for : ItemTable → Question → Rule
rule_for items Question.Exists = existing items
rule_for items Question.MisplacesDyn = misplacing items
rule_for items Question.IsFinite = finite items
rule_for items (Question.HoldsAdt n) = holding items (is_adt n)
rule_for items (Question.HoldsClosure n) = holding items (is_closure n)

-- what a rule shows in this many rounds from what is known at first
abbrev pub shown_from : (TyId → Bool) → List Ty → Rule → ℕ → TyId → Bool
shown_from known types rule zero id = known id
shown_from known types rule (suc rounds) id =
    option_map_or (rule (shown_from known types rule rounds)) (slice_get types id.0) false

-- a table, and so many rounds from it on, tell what the rule of a question shows
abbrev pub Tells : ItemTable → Question → List Bool → ℕ → Type 0
Tells items question known rounds =
    (id : TyId) →
    shown_from (known_by known) items.types (rule_for items question) rounds id
    ≡ by_rule items.types (rule_for items question) id

-- what is told of types where there is a table of each question, and where there is none
pub record AreTests (items : ItemTable) (tests : TypeTests) : Type 0 where
  pub exists : Tells items Question.Exists tests.exists.now tests.rounds
  pub misplaced : Tells items Question.MisplacesDyn tests.misplaced.now tests.rounds
  pub finite : Tells items Question.IsFinite tests.finite.now tests.rounds

-- an element that is there or not
abbrev pub listed : {X : Type 0} → Option X → List X
listed None = []
listed (Some x) = x ∷ []

-- integer types, where they are such, are one
abbrev pub same_kinds : Option IntKind → Option IntKind → Bool
same_kinds None right = false
same_kinds (Some kind) None = false
same_kinds (Some kind) (Some other) = is_int kind (Some (Ty.Int other))

-- what is asked of a place: that its locals exist, and that its steps have their types
abbrev pub passes : ItemTable → List TyId → PlaceTest → Place → Bool
passes items locals PlaceTest.LocalsExist place =
    list_all (λ local. nat_lt local (length locals)) (place.local ∷ index_locals place.steps)
passes items locals PlaceTest.IsTyped place = is_typed_place items locals place

-- and of the place of an operand, where it has one
abbrev pub operand_passes : ItemTable → List TyId → PlaceTest → Operand → Bool
operand_passes items locals test operand = list_all (passes items locals test) (place_of operand)

-- what is asked of a block to which an edge leads
abbrev pub edge_passes : Body → Block → EdgeTest → ℕ → Bool
edge_passes body block EdgeTest.Exists n = nat_lt n (length body.blocks)
edge_passes body block EdgeTest.Lowers n = option_map_or (lowers block) (slice_get body.blocks n) true
edge_passes body block EdgeTest.IsCleanup n = option_map_or is_cleanup (slice_get body.blocks n) true
edge_passes body block EdgeTest.IsNoCleanup n =
    option_map_or (λ found. not (is_cleanup found)) (slice_get body.blocks n) true
