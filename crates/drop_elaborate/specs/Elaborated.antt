-- How a body is elaborated: each raw block keeps its number, kind and statements, with the stores into flags that its
-- uses of places ask for; a drop that is dead becomes a `goto`, a plain one stays, and any other one leads to the
-- ladder of its plan. How a graph is.
use Rattle.std.specs.Prelude.{◌≡◌, ℕ, zero, suc, ◌+◌, not, Bool, true, false, List, [], ◌∷◌, ◌++◌, map, flat_map, length, replicate, Option, Some, None, slice_get, option_and_then, if◌then◌else◌}
use Rattle.std.specs.Option.{option_map_or}
use Rattle.mir_ty.specs.declared.ty.Ty.{Ty}
use Rattle.mir_ty.specs.declared.ty.TyId.{TyId}
use Rattle.mir_ty.specs.ItemTable.{ItemTable, type_at}
use Rattle.cfg_graph.specs.declared.graph.Block.{Block}
use Rattle.cfg_graph.specs.declared.graph.Body.{Body}
use Rattle.cfg_graph.specs.declared.graph.Graph.{Graph}
use Rattle.cfg_graph.specs.declared.graph.Kind.{Kind}
use Rattle.cfg_graph.specs.declared.place.Operand.{Operand}
use Rattle.cfg_graph.specs.declared.place.Place as graph
use Rattle.cfg_graph.specs.declared.statement.Stmt.{Stmt}
use Rattle.cfg_graph.specs.declared.terminator.Term.{Term}
use Rattle.cfg_graph.specs.declared.terminator.Unwind.{Unwind}
use Rattle.cfg_graph.specs.Edges.{IsRanked}
use Rattle.cfg_graph.specs.Moves.Gone.{counts, is_at_or_above, is_param, leaves_gone}
use Rattle.cfg_graph.specs.NamedPlaces.{same_place}
use Rattle.cfg_graph.specs.Places.{named}
use Rattle.cfg_graph.specs.Uses.{PlaceUse, Stores, Drops, stmt_uses, stored_by_term, term_uses}
use Rattle.store_model.specs.Places.Place.{Place}
use Rattle.move_paths.specs.Forest.{PathForest, IsForest}
use Rattle.drop_values.specs.Facts.{Tree, Facts}
use Rattle.drop_values.specs.Plan.{Plan}
use Rattle.drop_values.specs.Planning.{plan_of}
use Rattle.drop_elaborate.specs.Kinds.{place_id, IsDead, IsSure, AreFacts, IsTree, AreFlagged}
use Rattle.drop_elaborate.specs.Ladder.{Calmly, Abruptly, LadderAt, local_place}

abbrev pub is_drop : Term → Bool
is_drop (Term.DropAt place next unwind) = true
is_drop term = false

-- the number of a place in a list that is counted from a number on
abbrev pub place_number : Place → List Place → ℕ → Option ℕ
place_number place [] n = None
place_number place (other ∷ others) n = if same_place place other then Some n else place_number place others (suc n)

module _ (items : ItemTable) (body : Body) (flagged : List Place) where
  -- the flag of a path is a local after those of the body
  abbrev pub flag_at : ℕ → ℕ
  flag_at n = length body.locals + n

  -- the flag of the path with a number, if it has one
  abbrev pub flag_of : (paths : List Place) → ℕ → Option ℕ
  flag_of paths number =
      option_and_then (λ path. option_map_or (λ n. Some (flag_at n)) (place_number path flagged 0) None)
      (slice_get paths number)

  abbrev pub set_flag : ℕ → Bool → Stmt
  set_flag n present = Stmt.Put (local_place (flag_at n)) (Operand.Truth present)

  -- the flags at and below a place, from a number on
  abbrev pub flags_below : Place → Bool → List Place → ℕ → List Stmt
  flags_below place present [] n = []
  flags_below place present (path ∷ paths) n =
      (if is_at_or_above place path then set_flag n present ∷ [] else []) ++ flags_below place present paths (suc n)

  abbrev pub flags_if : Option Bool → Place → List Stmt
  flags_if None place = []
  flags_if (Some gone) place = flags_below place (not gone) flagged 0

  -- what a use of a place sets
  abbrev pub flags_of_use : PlaceUse × graph.Place → List Stmt
  flags_of_use made = if counts items body (named made.1) then flags_if (leaves_gone made.0) (named made.1) else []

  abbrev pub flags_of_uses : List (PlaceUse × graph.Place) → List Stmt
  flags_of_uses uses = flat_map flags_of_use uses

  abbrev pub with_flags : List Stmt → List Stmt
  with_flags [] = []
  with_flags (stmt ∷ stmts) = stmt ∷ flags_of_uses (stmt_uses stmt) ++ with_flags stmts

  -- before anything is done: a path of a parameter is present
  abbrev pub first_flags : List Place → ℕ → List Stmt
  first_flags [] n = []
  first_flags (path ∷ paths) n = set_flag n (is_param items body path.local) ∷ first_flags paths (suc n)

  abbrev pub at_start : ℕ → List Stmt
  at_start zero = first_flags flagged 0
  at_start (suc n) = []

  -- A drop is neither dead nor plain, and this is its plan: that of its type and of the paths at and below its place,
  -- by what the paths that come to the drop tell of them. Numbers are those of any list of the body's paths: they name
  -- paths alone.
  pub record IsPlanned (n : ℕ) (place : Place) (plan : Plan) : Type 0 where
    pub not_dead : IsDead items body n place → ⊥
    pub not_sure : IsSure items body n place → ⊥
    pub forest : PathForest
    pub is_forest : IsForest items body forest
    pub are_flagged : AreFlagged items body forest.paths flagged
    pub tree : Tree
    pub is_tree : IsTree items body forest.paths place tree
    pub id : TyId
    pub typed : place_id items body place ≡ Some id
    pub facts : Facts
    pub are_facts : AreFacts items body forest.paths n facts
    pub plan_is : plan ≡ plan_of items facts (flag_of forest.paths) tree id

  module _ (body' : Body) where
    pub record BlockIs (n : ℕ) (kind : Kind) (stmts : List Stmt) (term : Term) : Type 0 where
      pub block : Block
      pub there : slice_get body'.blocks n ≡ Some block
      pub kind_is : block.kind ≡ kind
      pub stmts_are : block.stmts ≡ stmts
      pub term_is : block.term ≡ term

    -- an edge on which flags are set: at once to its end, or by a block of its own
    abbrev pub EdgeTo : Kind → List Stmt → (from to : ℕ) → Type 0
    EdgeTo kind [] from to = from ≡ to
    EdgeTo kind (stmt ∷ stmts) from to = BlockIs from kind (stmt ∷ stmts) (Term.Goto to)

    -- the flags that a drop clears, as it is left
    abbrev pub cleared : graph.Place → List Stmt
    cleared place = flags_of_uses ((Drops, place) ∷ [])

    -- where the ladder of a drop ends
    abbrev pub LadderTo : Plan → Kind → graph.Place → (from next : ℕ) → Unwind → Type 0
    LadderTo plan kind place from next (Unwind.Block block) =
        (calm twin : ℕ) × EdgeTo kind (cleared place) calm next × EdgeTo Kind.Cleanup (cleared place) twin block
        × LadderAt body' plan place from calm (Calmly twin)
    LadderTo plan kind place from next Unwind.Resume =
        (calm twin : ℕ) × EdgeTo kind (cleared place) calm next × BlockIs twin Kind.Cleanup [] Term.Resume
        × LadderAt body' plan place from calm (Calmly twin)
    LadderTo plan kind place from next Unwind.Abort = (calm : ℕ) × EdgeTo kind (cleared place) calm next
        × LadderAt body' plan place from calm Abruptly

    -- a terminator with another block to go on to
    abbrev pub onward_to : ℕ → Term → Term
    onward_to n (Term.Math to op left right next unwind) = Term.Math to op left right n unwind
    onward_to n (Term.Negate to of next unwind) = Term.Negate to of n unwind
    onward_to n (Term.Call to callee args next unwind) = Term.Call to callee args n unwind
    onward_to n (Term.Virtual to trait_no method args next unwind) = Term.Virtual to trait_no method args n unwind
    onward_to n (Term.Ask to next unwind) = Term.Ask to n unwind
    onward_to n (Term.Bounds index count next unwind) = Term.Bounds index count n unwind
    onward_to n term = term

    -- the block to which a terminator goes on, where it is one
    abbrev pub next_of : Term → ℕ
    next_of (Term.Math to op left right next unwind) = next
    next_of (Term.Negate to of next unwind) = next
    next_of (Term.Bounds index count next unwind) = next
    next_of (Term.Call to callee args next unwind) = next
    next_of (Term.Virtual to trait_no method args next unwind) = next
    next_of (Term.Ask to next unwind) = next
    next_of term = 0

    abbrev pub result_flags : Term → List Stmt
    result_flags term = flags_of_uses (map (λ place. (Stores, place)) (stored_by_term term))

    -- how a raw block ends, by its number: the statements before its terminator, and the terminator
    pub data Ends (n : ℕ) (kind : Kind) : Term → List Stmt → Term → Type 0 where
      -- the result of a terminator sets flags on the way on
      result : (term : Term) (from : ℕ) → is_drop term ≡ false → EdgeTo kind (result_flags term) from (next_of term) →
          Ends n kind term (flags_of_uses (term_uses term)) (onward_to from term)
      dead : (place : graph.Place) (next : ℕ) (unwind : Unwind) → IsDead items body n (named place) →
          Ends n kind (Term.DropAt place next unwind) (cleared place) (Term.Goto next)
      plain : (place : graph.Place) (next : ℕ) (unwind : Unwind) → (IsDead items body n (named place) → ⊥) →
          IsSure items body n (named place) →
          Ends n kind (Term.DropAt place next unwind) (cleared place) (Term.DropAt place next unwind)
      ladder : (plan : Plan) (place : graph.Place) (next from : ℕ) (unwind : Unwind) →
          IsPlanned n (named place) plan → LadderTo plan kind place from next unwind →
          Ends n kind (Term.DropAt place next unwind) [] (Term.Goto from)

    -- the kind of the blocks that are made for a block: an edge within a turn is no turn
    abbrev pub kind_after : Kind → Kind
    kind_after Kind.Plain = Kind.Plain
    kind_after Kind.Turn = Kind.Plain
    kind_after Kind.Cleanup = Kind.Cleanup

    pub record BlockDone (n : ℕ) (block : Block) : Type 0 where
      pub ending : List Stmt
      pub term : Term
      pub ends : Ends n (kind_after block.kind) block.term ending term
      pub there : BlockIs n block.kind (at_start n ++ (with_flags block.stmts ++ ending)) term

    -- a body is elaborated from another with flags of these paths
    pub record IsElaboratedWith : Type 0 where
      pub params : body'.params ≡ body.params
      pub flag_ty : TyId
      pub flag_is : type_at items flag_ty ≡ Some Ty.Bool
      pub locals : body'.locals ≡ body.locals ++ replicate (length flagged) flag_ty
      pub ranked : IsRanked body'
      pub blocks : (n : ℕ) (block : Block) → slice_get body.blocks n ≡ Some block → BlockDone n block

-- a body is elaborated from another: it has a flag of each path that needs one, in the order of the body's paths
pub record IsElaboratedBody (items : ItemTable) (body body' : Body) : Type 0 where
  pub forest : PathForest
  pub is_forest : IsForest items body forest
  pub flagged : List Place
  pub are_flagged : AreFlagged items body forest.paths flagged
  pub done : IsElaboratedWith items body flagged body'

-- a graph is elaborated from another: it has the same items, and each body is elaborated from the one with its number
pub record IsElaboration (raw graph : Graph) : Type 0 where
  pub items : graph.items ≡ raw.items
  pub count : length graph.bodies ≡ length raw.bodies
  pub bodies : (n : ℕ) (body : Body) → slice_get raw.bodies n ≡ Some body →
      (body' : Body) × (slice_get graph.bodies n ≡ Some body') × IsElaboratedBody raw.items body body'
