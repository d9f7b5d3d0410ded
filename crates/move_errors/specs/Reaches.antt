-- When a list of choices reaches a bad use of a body, and which of such lists is the least. It stands over the paths
-- and the bad uses of graphs alone.
use Rattle.std.specs.Prelude.{◌≡◌, ◌⊎◌, ◌<◌, ℕ, Bool, true, false, List, [], ◌∷◌, ◌++◌, length, Option, Some, None, slice_get, Contains, if◌then◌else◌}
use Rattle.mir_ty.specs.ItemTable.{ItemTable}
use Rattle.cfg_graph.specs.declared.graph.Block.{Block}
use Rattle.cfg_graph.specs.declared.graph.Body.{Body}
use Rattle.cfg_graph.specs.Edges.{ToBlock}
use Rattle.cfg_graph.specs.Uses.{PlaceUse, Copies, Moves, Borrows, Touches, Tests, Stores, Drops, Frees}
use Rattle.cfg_graph.specs.Moves.Gone.{PathAction}
use Rattle.cfg_graph.specs.Moves.Paths.{ways, IsPath}
use Rattle.cfg_graph.specs.Moves.Actions.{actions_on}
use Rattle.cfg_graph.specs.Moves.BadUses.{UseRule, U1, U2, BadUse, may_not_read, may_not_test, may_not_store, bad_uses_on}

-- a store or a drop is bad by U2, any other use by U1
abbrev pub rule_of : PlaceUse → UseRule
rule_of Stores = U2
rule_of Drops = U2
rule_of how = U1

module _ (items : ItemTable) (body : Body) where
  -- a use of a place is bad after earlier actions; to free is never bad
  abbrev pub is_bad : List PathAction → PathAction → PlaceUse → Bool
  is_bad earlier action Copies = may_not_read items body earlier action.place
  is_bad earlier action Moves = may_not_read items body earlier action.place
  is_bad earlier action Borrows = may_not_read items body earlier action.place
  is_bad earlier action Touches = may_not_read items body earlier action.place
  is_bad earlier action Tests = may_not_test items body earlier action.place
  is_bad earlier action Stores = may_not_store items body earlier action.place
  is_bad earlier action Drops = may_not_store items body earlier action.place
  is_bad earlier action Frees = false

  -- the first bad one of these actions, after earlier ones
  abbrev pub first_bad : List PathAction → List PathAction → Option BadUse
  first_bad earlier [] = None
  first_bad earlier (action ∷ later) =
      if is_bad earlier action action.how
      then Some (record { rule = rule_of action.how; action = action })
      else first_bad (earlier ++ action ∷ []) later

  -- A path with these choices meets its first bad use in its last block, before a way out of it.
  pub record ReachesInBlock (path : List ℕ) (given : List Bool) (bad : BadUse) : Type 0 where
    pub front : List ℕ
    pub last : ℕ
    pub path_is : path ≡ front ++ last ∷ []
    pub is_path : IsPath items body path given
    pub earlier : List PathAction
    pub before : actions_on body path ≡ earlier ++ actions_on body (last ∷ [])
    pub none : first_bad [] earlier ≡ None
    pub first : first_bad earlier (actions_on body (last ∷ [])) ≡ Some bad

  -- A path meets its first bad use on a way out of its last block, where the result of the terminator is stored; the
  -- choice of that way is the last one.
  pub record ReachesOnWay (path : List ℕ) (given : List Bool) (bad : BadUse) : Type 0 where
    pub front : List ℕ
    pub last : ℕ
    pub path_is : path ≡ front ++ last ∷ []
    pub before : List Bool
    pub is_path : IsPath items body path before
    pub none : first_bad [] (actions_on body path) ≡ None
    pub next : ℕ
    pub choices : List Bool
    pub block : Block
    pub there : slice_get body.blocks last ≡ Some block
    pub way : Contains (ways items body block.term) (record { choices = choices; exit = ToBlock next })
    pub given_is : given ≡ before ++ choices
    pub stored : List PathAction
    pub stores :
        actions_on body (last ∷ next ∷ []) ≡ (actions_on body (last ∷ []) ++ stored) ++ actions_on body (next ∷ [])
    pub first : first_bad (actions_on body path) stored ≡ Some bad

  abbrev pub Reaches : List ℕ → List Bool → BadUse → Type 0
  Reaches path given bad = ReachesInBlock path given bad ⊎ ReachesOnWay path given bad

  -- no path meets a bad use
  abbrev pub MeetsNone : Type 0
  MeetsNone = (path : List ℕ) (given : List Bool) → IsPath items body path given → bad_uses_on items body path ≡ []

-- of two lists of one length the first is the other one or comes before it in order, 0 before 1
abbrev pub InOrder : List Bool → List Bool → Type 0
InOrder [] other = [] ≡ other
InOrder (x ∷ xs) [] = ⊥
InOrder (false ∷ xs) (true ∷ ys) = length xs ≡ length ys
InOrder (true ∷ xs) (false ∷ ys) = ⊥
InOrder (false ∷ xs) (false ∷ ys) = InOrder xs ys
InOrder (true ∷ xs) (true ∷ ys) = InOrder xs ys

-- a list is shorter than another, or as long and not after it in order
abbrev pub IsLeast : List Bool → List Bool → Type 0
IsLeast given other = (length given < length other) ⊎ InOrder given other
