-- Where evaluation puts entries, by the table.
use Rattle.std.specs.Prelude.{◌≡◌, ◌≢◌, ℕ, ◌==◌, Bool, true, false, List, [], ◌∷◌, map, Option, Some, None, if◌then◌else◌}
use Rattle.std.specs.List.{AllPairs, Contains}
use Rattle.mir_base.specs.declared.place_in_text.NodeId.{NodeId}
use Rattle.mir_ty.specs.ItemTable.{ItemTable}
use Rattle.scope_table.specs.declared.row.ScopeRow.{ScopeRow}
use Rattle.scope_table.specs.declared.row.Within.{Within}
use Rattle.scope_table.specs.Table.{nothing, entry_in, form_of, reached_in, pending_in, name_in, rows, alone_rows, pattern_rows, rows_of_params}
use Rattle.src_meaning.specs.Evaluation.{meaning}
use Rattle.src_meaning.specs.Forms.{Destination, Into, LoopsAndGuards, entry_of, pending_if, operand, complete, alone, bind}
use Rattle.src_meaning.specs.Locals.OfBody.{is_place_form}
use Rattle.src_meaning.specs.Programs.{params_entered}
use Rattle.src_meaning.specs.Scopes.{Entry, Scope, Scopes, innermost, nearest_temporary, with_pending, Value, Breaks, Continues, Returns, Panics, Run, At, Over, Does, ◌>>◌}
use Rattle.src_meaning.specs.Shape.{shape}
use Rattle.store_model.specs.Effects.{Effects}
use Rattle.store_model.specs.Places.Place.{Place}
use Rattle.typed_tree.specs.Nodes.{number_of, nodes_of}
use Rattle.typed_tree.specs.Tree.{Node, ParamTree}

-- what a scope is: the node whose scope it is, and whether temporaries go to it
pub record ScopeHead : Type 0 where
  pub node : ℕ
  pub for_temporaries : Bool

abbrev pub head_of : Scope → ScopeHead
head_of s = record { node = s.node; for_temporaries = s.for_temporaries }

-- scopes, the innermost first, each with the keys of its entries, the youngest first
abbrev pub Held : Type 0
Held = List (ScopeHead × List ℕ)

abbrev pub held_by : Scope → ScopeHead × List ℕ
held_by s = (head_of s, map (λ (e : Entry). e.key) s.entries)

abbrev pub held : Scopes → Held
held S = map held_by S

-- a key becomes the youngest of the innermost scope of a node, if there is one
abbrev pub enter : (scope key : ℕ) → Held → Held
enter scope key [] = []
enter scope key (h ∷ H) = if h.0.node == scope then (h.0, key ∷ h.1) ∷ H else h ∷ enter scope key H

abbrev pub enter_if_any : Option NodeId → NodeId → Held → Held
enter_if_any None key H = H
enter_if_any (Some scope) key H = enter scope.0 key.0 H

-- the entries that rows of the table make, one after the other
abbrev pub entered : List ScopeRow → Held → Held
entered [] H = H
entered (row ∷ rows) H = entered rows (enter_if_any row.entry row.node H)

-- a change of the innermost scope of a node, if there is one
abbrev pub in_scope_of : (id : ℕ) → (Scope → Scope) → Scopes → Scopes
in_scope_of id change [] = []
in_scope_of id change (s ∷ S) = if s.node == id then change s ∷ S else s ∷ in_scope_of id change S

-- a destination that is pending in the scope of a node, if it is in any
abbrev pub waiting : Option NodeId → Entry → Scopes → Scopes
waiting None e S = S
waiting (Some scope) e S = in_scope_of scope.0 (with_pending e) S

-- the innermost scope is that of a node
abbrev pub IsInnermost : NodeId → List ScopeHead → Type 0
IsInnermost scope [] = ⊥
IsInnermost scope (h ∷ heads) = h.node ≡ scope.0

abbrev pub IsOr : Bool → Type 0 → Type 0 → Type 0
IsOr true this other = this
IsOr false this other = other

-- the nearest scope for temporaries is that of a node, and no scope within it is
abbrev pub IsNearest : NodeId → List ScopeHead → Type 0
IsNearest scope [] = ⊥
IsNearest scope (h ∷ heads) =
    IsOr h.for_temporaries (h.node ≡ scope.0) ((h.node ≢ scope.0) × IsNearest scope heads)

-- scopes in which something stands within others
pub record StandsIn (w : Within) (heads : List ScopeHead) : Type 0 where
  pub innermost : IsInnermost w.innermost heads
  pub nearest : IsNearest w.temporary heads

abbrev pub numbers_of : Node → List ℕ
numbers_of n = map number_of (nodes_of n)

-- each number is that of one node, and of none whose scope is open
pub record IsNew (n : Node) (heads : List ScopeHead) : Type 0 where
  pub distinct : AllPairs (λ a b. a ≢ b) (numbers_of n)
  pub not_open : (id : ℕ) → Contains (numbers_of n) id → Contains (map (λ (h : ScopeHead). h.node) heads) id → ⊥

-- what holds of the scopes where there is a value
abbrev pub WithValue : {W : Type 0} → (Scopes → Type 0) → Run W → Type 0
WithValue P (At Value S x) = P S
WithValue P (At (Breaks loop) S x) = Unit {0}
WithValue P (At (Continues loop) S x) = Unit {0}
WithValue P (At Returns S x) = Unit {0}
WithValue P (At Panics S x) = Unit {0}
WithValue P (Over halt x) = Unit {0}

-- in these scopes, where there is a value, the entries of rows have been made, and nothing else has
abbrev pub Enters : {W : Type 0} → List ScopeHead → List ScopeRow → Does W → Type 0
Enters heads rows does =
    (S : Scopes) → map head_of S ≡ heads → (x : _) → WithValue (λ after. held after ≡ entered rows (held S)) (does S x)

module _ {W : Type 0} (items : ItemTable) (p : Effects W) (fuel : ℕ) (n : Node) where
  -- the entry of a node in a run
  abbrev pub entry_in_run : Entry
  entry_in_run = entry_of (meaning items p fuel n).head

  -- a node makes its value under its own number, and then its entry in a scope
  abbrev pub made_in : LoopsAndGuards → ((Scope → Scope) → Scopes → Scopes) → Does W
  made_in around in_that = do
    (meaning items p fuel n).evaluate around false (Into (meaning items p fuel n).head.id)
    complete items p in_that (meaning items p fuel n).head

  -- the value of an expression statement, in the scope of the statement
  abbrev pub made_of_statement : LoopsAndGuards → Does W
  made_of_statement around = pending_if items p true innermost (meaning items p fuel n).head >> made_in around innermost

-- A node as a statement or as another value that makes no entry, as an operand, as the value of an expression
-- statement, as a place or a temporary, as a scope for temporaries of its own; and the names of a pattern. An operand,
-- the value of a statement or a temporary is made while its destination is pending where its row says.
pub record Puts
    {W : Type 0} (items : ItemTable) (p : Effects W) (fuel : ℕ) (heads : List ScopeHead) (w : Within) (n : Node)
    : Type 0 where
  pub evaluated : (around : LoopsAndGuards) (to : Destination) →
      Enters heads (rows w nothing n) ((meaning items p fuel n).evaluate around false to)
  pub as_operand : (around : LoopsAndGuards) →
      Enters heads (rows w (entry_in w.innermost n) n) (operand items p around (meaning items p fuel n))
  pub of_statement : (around : LoopsAndGuards) →
      Enters heads (rows w (pending_in w.innermost) n) (made_of_statement items p fuel n around)
  pub reached : (around : LoopsAndGuards) →
      Enters heads (rows w (reached_in w.temporary n) n) ((meaning items p fuel n).reach around)
  pub by_itself : (around : LoopsAndGuards) (to : Destination) →
      Enters heads (alone_rows n) (alone items p around (meaning items p fuel n) to)
  pub names : (place : Place) →
      Enters heads (pattern_rows w.temporary (name_in w.innermost) n)
      (bind items p innermost ((shape items n).bindings place))
  pub operand_waits : (around : LoopsAndGuards) (S : Scopes) → map head_of S ≡ heads → (x : W) →
      operand items p around (meaning items p fuel n) S x
      ≡ made_in items p fuel n around innermost
      (waiting (entry_in w.innermost n).destination (entry_in_run items p fuel n) S) x
  pub statement_waits : (around : LoopsAndGuards) (S : Scopes) → map head_of S ≡ heads → (x : W) →
      made_of_statement items p fuel n around S x
      ≡ made_in items p fuel n around innermost
      (waiting (pending_in w.innermost).destination (entry_in_run items p fuel n) S) x
  pub temporary_waits : (around : LoopsAndGuards) (S : Scopes) → map head_of S ≡ heads → (x : W) →
      is_place_form (form_of n) ≡ false →
      (meaning items p fuel n).reach around S x
      ≡ made_in items p fuel n around nearest_temporary
      (waiting (reached_in w.temporary n).destination (entry_in_run items p fuel n) S) x

-- Evaluation puts entries where the table says: those of all nodes, in scopes that stand as the table takes them to,
-- and those of the parameters of a body, in that of the entire function. Of all effects on such a world.
pub record PutsWhereTheTableSays (W : Type 0) : Type 0 where
  pub nodes : (items : ItemTable) (p : Effects W) (fuel : ℕ) (heads : List ScopeHead) (w : Within) (n : Node) →
      StandsIn w heads → IsNew n heads → Puts items p fuel heads w n
  pub params : (items : ItemTable) (p : Effects W) (fuel : ℕ) (heads : List ScopeHead) (scope : NodeId)
      (params : List ParamTree) →
      IsInnermost scope heads → Enters heads (rows_of_params scope params) (params_entered items p fuel params)
