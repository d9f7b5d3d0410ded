-- A form runs each part only as the table says, and only in the scopes that the table says.
use Rattle.std.specs.Prelude.{◌≡◌, ℕ, Bool, true, false, not, ◌||◌, List, [], ◌∷◌, map}
use Rattle.mir_base.specs.declared.place_in_text.NodeId.{NodeId}
use Rattle.mir_ty.specs.ItemTable.{ItemTable}
use Rattle.scope_table.specs.declared.row.ScopeRow.{ScopeRow}
use Rattle.scope_table.specs.declared.row.Within.{Within}
use Rattle.scope_table.specs.Law.{ScopeHead, Held, held, entered, StandsIn, IsNew}
use Rattle.scope_table.specs.Lines.{with_parts}
use Rattle.scope_table.specs.Parts.{Role, Evaluated, ByItself, AsOperand, OfStatement, OfLet, Reached, AsArm, Names, Step, Inside, parts, within, rows_of, HasRowsOfItsParts}
use Rattle.scope_table.specs.Table.{named, form_of}
use Rattle.src_meaning.specs.Evaluation.{meaning}
use Rattle.src_meaning.specs.Forms.{Destination, Into, LoopsAndGuards, Meaning, operand, pending_if, complete, alone}
use Rattle.src_meaning.specs.Scopes.{Scopes, innermost, Does, ◌>>◌}
use Rattle.store_model.specs.Effects.{Effects}
use Rattle.store_model.specs.Places.Place.{Place}
use Rattle.typed_tree.specs.Nodes.{number_of}
use Rattle.typed_tree.specs.Tree.{Node}

-- scopes that a form opens, empty, within others
abbrev pub opened_in : ℕ → List Bool → Held → Held
opened_in id [] H = H
opened_in id (for_temporaries ∷ opened) H =
    (record { node = id; for_temporaries = for_temporaries }, []) ∷ opened_in id opened H

abbrev pub heads_of : Held → List ScopeHead
heads_of H = map (λ (h : ScopeHead × List ℕ). h.0) H

-- the entries that a step leaves in scopes which are still open
abbrev pub left_by : Within → Role → Node → List ScopeRow
left_by w ByItself n = []
left_by w AsArm n = []
left_by w role n = rows_of w role n

-- two do the same wherever the scopes hold this
abbrev pub SameWhere : {W : Type 0} → Held → Does W → Does W → Type 0
SameWhere H one other = (S : Scopes) → held S ≡ H → (x : _) → one S x ≡ other S x

-- the value of an expression statement, and what a `let` takes apart, each while its destination is pending where it has
-- one that is
module _ {W : Type 0} (items : ItemTable) (p : Effects W) where
  abbrev pub of_statement : LoopsAndGuards → Meaning W → Does W
  of_statement around m = do
    pending_if items p true innermost m.head
    m.evaluate around false (Into m.head.id)
    complete items p innermost m.head

  abbrev pub of_let : LoopsAndGuards → Meaning W → Does W
  of_let around m = do
    pending_if items p (not (m.shape.is_place || m.shape.in_destination)) innermost m.head
    m.reach around

  -- two nodes do the same in a role, wherever the scopes hold this; as arms, if what follows them does
  abbrev pub SameAs : Role → Held → Meaning W → Meaning W → Type 0
  SameAs Evaluated H one other = (around : LoopsAndGuards) (to : Destination) →
      SameWhere H (one.evaluate around false to) (other.evaluate around false to)
  SameAs ByItself H one other = (around : LoopsAndGuards) (to : Destination) →
      SameWhere H (alone items p around one to) (alone items p around other to)
  SameAs AsOperand H one other = (around : LoopsAndGuards) →
      SameWhere H (operand items p around one) (operand items p around other)
  SameAs OfStatement H one other = (around : LoopsAndGuards) →
      SameWhere H (of_statement around one) (of_statement around other)
  SameAs OfLet H one other = (around : LoopsAndGuards) → SameWhere H (of_let around one) (of_let around other)
  SameAs Reached H one other = (around : LoopsAndGuards) → SameWhere H (one.reach around) (other.reach around)
  SameAs AsArm H one other = (matched : Place) (next after : Does W) → SameWhere H next after →
      (around : LoopsAndGuards) (to : Destination) →
      SameWhere H (one.arm matched next around to) (other.arm matched after around to)
  SameAs Names H one other = Unit {0}

-- what nodes do instead of what they do
pub record Instead (W : Type 0) : Type 0 where
  pub evaluate : Node → LoopsAndGuards → Bool → Destination → Does W
  pub reach : Node → LoopsAndGuards → Does W
  pub arm : Node → Place → Does W → LoopsAndGuards → Destination → Does W

module _ {W : Type 0} (items : ItemTable) (p : Effects W) (fuel : ℕ) (instead : Instead W) where
  abbrev pub changed : Node → Meaning W
  changed n = record (meaning items p fuel n) {
    evaluate = instead.evaluate n;
    reach = instead.reach n;
    arm = instead.arm n;
  }

  -- Steps begin where the scopes hold this, and each where the steps before it have made their entries. There each part
  -- does what it does, in its role.
  abbrev pub StepsAreKept : Within → Held → List Step → Type 0
  StepsAreKept w H [] = Unit {0}
  StepsAreKept w H (step ∷ steps) =
      SameAs items p step.role H (changed step.part) (meaning items p fuel step.part)
      × StepsAreKept w (entered (left_by w step.role step.part) H) steps

  abbrev pub PartsAreKept : NodeId → Within → Held → List Inside → Type 0
  PartsAreKept id w H [] = Unit {0}
  PartsAreKept id w H (group ∷ groups) =
      StepsAreKept (within id group.opened w) (opened_in id.0 group.opened H) group.steps × PartsAreKept id w H groups

  abbrev pub PartsOfNodeAreKept : Bool → Within → Held → Node → Type 0
  PartsOfNodeAreKept own w H n = PartsAreKept (named (number_of n)) w H (parts own (form_of n))

  -- a node whose parts do that
  abbrev pub with_changed_parts : Node → Meaning W
  with_changed_parts n = with_parts items p fuel changed n

  -- A node does the same whatever its parts do elsewhere: evaluated, so as a scope for temporaries of its own, reached,
  -- and as an arm.
  pub record RunsPartsOnlyThere (w : Within) (H : Held) (n : Node) : Type 0 where
    pub evaluated : PartsOfNodeAreKept false w H n →
        SameAs items p Evaluated H (with_changed_parts n) (meaning items p fuel n)
    pub by_itself : PartsOfNodeAreKept true w H n →
        SameAs items p ByItself H (with_changed_parts n) (meaning items p fuel n)
    pub reached : PartsOfNodeAreKept false w H n →
        SameAs items p Reached H (with_changed_parts n) (meaning items p fuel n)
    pub as_arm : PartsOfNodeAreKept false w H n →
        SameAs items p AsArm H (with_changed_parts n) (meaning items p fuel n)

-- A form runs each part in the role and in the scopes that `parts` names, and nowhere else: with anything in the stead
-- of what the part does elsewhere it does the same. The lines with open parts are those of the evaluation. Of all
-- effects on such a world.
pub record RunsPartsInTheirScopes (W : Type 0) : Type 0 where
  pub lines : (items : ItemTable) (p : Effects W) (fuel : ℕ) (n : Node) →
      with_parts items p fuel (meaning items p fuel) n ≡ meaning items p fuel n
  pub only_there : (items : ItemTable) (p : Effects W) (fuel : ℕ) (instead : Instead W) (w : Within) (H : Held)
      (n : Node) → StandsIn w (heads_of H) → IsNew n (heads_of H) → RunsPartsOnlyThere items p fuel instead w H n

-- in the scopes of each part the table's nearest temporary scope is the nearest, and its innermost is the innermost
abbrev pub PartsStand : NodeId → Within → Held → List Inside → Type 0
PartsStand id w H [] = Unit {0}
PartsStand id w H (group ∷ groups) =
    StandsIn (within id group.opened w) (heads_of (opened_in id.0 group.opened H)) × PartsStand id w H groups

-- the table has the rows of these parts, and takes the scopes to stand as they do
pub record TableHasTheParts (by_itself : Bool) : Type 0 where
  pub rows : (w : Within) (n : Node) → HasRowsOfItsParts by_itself w n
  pub stand : (w : Within) (H : Held) (n : Node) → StandsIn w (heads_of H) → IsNew n (heads_of H) →
      PartsStand (named (number_of n)) w H (parts by_itself (form_of n))
