-- The ways out of blocks, and the ranks that keep runs without turns finite.
use Rattle.std.specs.Prelude.{◌≡◌, ℕ, ◌<◌, Bool, true, false, ◌||◌, List, [], ◌∷◌, ◌++◌, map, flat_map, Some, slice_get, nat_lt, Contains}
use Rattle.cfg_graph.specs.declared.terminator.Term.{Term}
use Rattle.cfg_graph.specs.declared.terminator.Unwind.{Unwind}
use Rattle.cfg_graph.specs.declared.graph.Kind.{Kind}
use Rattle.cfg_graph.specs.declared.graph.Block.{Block}
use Rattle.cfg_graph.specs.declared.graph.Body.{Body}

-- the blocks to which a terminator leads otherwise than by unwinding, in the order of items: 0 for `no`, 1 for `yes`
abbrev pub onward : Term → List ℕ
onward (Term.Goto block) = block ∷ []
onward (Term.If on if_true if_false) = if_false ∷ if_true ∷ []
onward (Term.Case on variant if_true if_false) = if_false ∷ if_true ∷ []
onward (Term.Math to op left right next unwind) = next ∷ []
onward (Term.Negate to of next unwind) = next ∷ []
onward (Term.Bounds index count next unwind) = next ∷ []
onward (Term.Call to body args next unwind) = next ∷ []
onward (Term.Virtual to trait_no method args next unwind) = next ∷ []
onward (Term.Ask to next unwind) = next ∷ []
onward (Term.DropAt place next unwind) = next ∷ []
onward (Term.Panic why unwind) = []
onward Term.Return = []
onward Term.Resume = []

-- where a panic of the terminator goes on; none where it cannot panic
abbrev pub unwind_of : Term → List Unwind
unwind_of (Term.Goto block) = []
unwind_of (Term.If on if_true if_false) = []
unwind_of (Term.Case on variant if_true if_false) = []
unwind_of (Term.Math to op left right next unwind) = unwind ∷ []
unwind_of (Term.Negate to of next unwind) = unwind ∷ []
unwind_of (Term.Bounds index count next unwind) = unwind ∷ []
unwind_of (Term.Call to body args next unwind) = unwind ∷ []
unwind_of (Term.Virtual to trait_no method args next unwind) = unwind ∷ []
unwind_of (Term.Ask to next unwind) = unwind ∷ []
unwind_of (Term.DropAt place next unwind) = unwind ∷ []
unwind_of (Term.Panic why unwind) = unwind ∷ []
unwind_of Term.Return = []
unwind_of Term.Resume = []

-- where a way out of a block leads: on to a block, or out of the body, which ends by unwinding or ends the run
pub data BlockExit : Type 0 where
  ToBlock : (block : ℕ) → BlockExit
  LeavesBody : BlockExit

-- where a panic leads
abbrev pub unwind_exit : Unwind → BlockExit
unwind_exit (Unwind.Block block) = ToBlock block
unwind_exit Unwind.Resume = LeavesBody
unwind_exit Unwind.Abort = LeavesBody

-- the ways out of a terminator in the order of items, unwinding last
abbrev pub ways_out : Term → List BlockExit
ways_out term = map ToBlock (onward term) ++ map unwind_exit (unwind_of term)

-- the block in which a panic goes on, where it does
abbrev pub unwind_block : Unwind → List ℕ
unwind_block (Unwind.Block block) = block ∷ []
unwind_block Unwind.Resume = []
unwind_block Unwind.Abort = []

-- the blocks to which a panic of a terminator leads, and all blocks to which its edges lead
abbrev pub unwind_targets : Term → List ℕ
unwind_targets term = flat_map unwind_block (unwind_of term)

abbrev pub targets : Term → List ℕ
targets term = onward term ++ unwind_targets term

abbrev pub is_turn_kind : Kind → Bool
is_turn_kind Kind.Turn = true
is_turn_kind _ = false

abbrev pub is_cleanup_kind : Kind → Bool
is_cleanup_kind Kind.Cleanup = true
is_cleanup_kind _ = false

abbrev pub is_turn : Block → Bool
is_turn block = is_turn_kind block.kind

abbrev pub is_cleanup : Block → Bool
is_cleanup block = is_cleanup_kind block.kind

-- an edge to a block that is no turn block lowers the rank
abbrev pub lowers : Block → Block → Bool
lowers from to = is_turn to || nat_lt to.rank from.rank

-- each edge of a body that does not lead to a turn block lowers the rank
abbrev pub IsRanked : Body → Type 0
IsRanked body =
    (n m : ℕ) (from to : Block) →
    slice_get body.blocks n ≡ Some from → Contains (targets from.term) m → slice_get body.blocks m ≡ Some to →
    is_turn to ≡ false → to.rank < from.rank
