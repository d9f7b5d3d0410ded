-- The work list of a solver: the blocks whose row changed. What holds of it from turn to turn; no public contract speaks
-- of it.
use Rattle.std.specs.Prelude.{◌≡◌, ◌≢◌, ◌⊎◌, ℕ, ◌+◌, ◌*◌, ◌<◌, ◌≤◌, Bool, true, false, List, [], ◌∷◌, length, replicate, Option, Some, slice_index_or, slice_set, Contains, sum_by}
use Rattle.bit_rows.specs.Words.{union}
use Rattle.std.specs.BinaryHeap.{heap_items}
use Rattle.init_flow.specs.declared.flow.Flow.{Flow}
use Rattle.mir_ty.specs.ItemTable.{ItemTable}
use Rattle.cfg_graph.specs.declared.graph.Body.{Body}
use Rattle.init_flow.specs.Ways.{target}
use Rattle.init_flow.specs.Carried.{Bits}

-- what a solver is to solve: how many blocks there are, how many bits a row has, the row that paths start with, where
-- the ways of each block lead, and what they make of a row
pub record Problem : Type 0 where
  pub blocks : ℕ
  pub width : ℕ
  pub start : Bits
  pub target : (block way : ℕ) → Option ℕ
  pub pass : (block way : ℕ) → Bits → Bits

-- the rows of the blocks, whether each was reached, and whether it waits
pub record SolverState : Type 0 where
  pub rows : List Bits
  pub reached : List Bool
  pub waiting : List Bool

abbrev pub row_at : SolverState → ℕ → Bits
row_at s n = slice_index_or s.rows n []

abbrev pub is_reached : SolverState → ℕ → Bool
is_reached s n = slice_index_or s.reached n false

abbrev pub waits : SolverState → ℕ → Bool
waits s i = slice_index_or s.waiting i false

-- which way, as a number
abbrev pub bit : Bool → ℕ
bit true = 1
bit false = 0

abbrev pub state_of : Flow → SolverState
state_of flow = record { rows = flow.rows; reached = flow.reached; waiting = flow.waiting }

-- the blocks in the heap
abbrev pub blocks_in : Flow → List ℕ
blocks_in flow = heap_items flow.heap

-- before a block was reached
abbrev pub untouched : (width blocks : ℕ) → SolverState
untouched width blocks =
    record {
      rows = replicate blocks (replicate width false);
      reached = replicate blocks false;
      waiting = replicate blocks false;
    }

-- a block that waits, as it did or not
pub record Waits (old new : Flow) (i : ℕ) : Type 0 where
  pub state : state_of new ≡ record (state_of old) { waiting = slice_set old.waiting i true }
  pub kept : (c : ℕ) → Contains (blocks_in old) c → Contains (blocks_in new) c
  pub only : (c : ℕ) → Contains (blocks_in new) c → Contains (blocks_in old) c ⊎ (c ≡ i)
  pub there : (waits (state_of old) i ≡ true) ⊎ Contains (blocks_in new) i
  pub longer : length (blocks_in new) ≤ length (blocks_in old) + 1

-- a block that is taken up
pub record Taken (old new : Flow) (i : ℕ) : Type 0 where
  pub state : state_of new ≡ record (state_of old) { waiting = slice_set old.waiting i false }
  pub was : Contains (blocks_in old) i
  pub kept : (c : ℕ) → Contains (blocks_in old) c → (c ≡ i) ⊎ Contains (blocks_in new) c
  pub only : (c : ℕ) → Contains (blocks_in new) c → Contains (blocks_in old) c
  pub shorter : length (blocks_in new) + 1 ≡ length (blocks_in old)

-- how many bits are off
abbrev pub is_off : Bool → ℕ
is_off true = 0
is_off false = 1

abbrev pub off : Bits → ℕ
off [] = 0
off (x ∷ xs) = is_off x + off xs

-- what can still come to the rows: bits that are off, and blocks that were not reached
abbrev pub unsettled : SolverState → ℕ
unsettled s = sum_by off s.rows + sum_by is_off s.reached

-- the measure of what is left to do
abbrev pub left : Flow → ℕ
left flow = unsettled (state_of flow) * 2 + length (blocks_in flow)

module _ (f : Problem) where
  pub data Onward : ℕ → Bits → ℕ → Bits → Type 0 where
    here : (n : ℕ) (row : Bits) → Onward n row n row
    there :
        (n k m : ℕ) (row : Bits) (last : ℕ) (end : Bits) →
        f.target n k ≡ Some m → k < 2 → Onward m (f.pass n k row) last end → Onward n row last end

  -- a union of rows that paths carry to a block, of one at least
  pub data Made : ℕ → Bits → Type 0 where
    one : (n : ℕ) (row : Bits) → Onward 0 f.start n row → Made n row
    both : (n : ℕ) (a b : Bits) → Made n a → Made n b → Made n (union a b)

  -- the law of an analysis
  pub record Law : Type 0 where
    pub begins : length f.start ≡ f.width
    pub keeps : (n k : ℕ) (row : Bits) → length row ≡ f.width → length (f.pass n k row) ≡ f.width
    pub distributes :
        (n k : ℕ) (a b : Bits) → length a ≡ f.width → length b ≡ f.width →
        f.pass n k (union a b) ≡ union (f.pass n k a) (f.pass n k b)

  -- The ways of blocks that do not wait have done what they do; of one block only the first, so many.
  pub record Good (s : SolverState) (heap : List ℕ) (block done : ℕ) : Type 0 where
    pub rows_are : length s.rows ≡ f.blocks
    pub reached_are : length s.reached ≡ f.blocks
    pub waiting_are : length s.waiting ≡ f.blocks
    pub widths : (n : ℕ) → n < f.blocks → length (row_at s n) ≡ f.width
    pub made : (n : ℕ) → n < f.blocks → is_reached s n ≡ true → Made n (row_at s n)
    pub none : (n : ℕ) → n < f.blocks → is_reached s n ≡ false → row_at s n ≡ replicate f.width false
    pub flows :
        (n k m : ℕ) → n < f.blocks → m < f.blocks → k < 2 → f.target n k ≡ Some m →
        is_reached s n ≡ true → (n ≡ block → k < done) → waits s n ≡ false →
        (is_reached s m ≡ true) × (union (f.pass n k (row_at s n)) (row_at s m) ≡ row_at s m)
    pub held : (n : ℕ) → waits s n ≡ true → Contains heap n
    pub known : (n : ℕ) → Contains heap n → (n < f.blocks) × (is_reached s n ≡ true)

  -- block 0 was reached, with the row that paths start with
  abbrev pub Started : SolverState → Type 0
  Started s = 0 < f.blocks → (is_reached s 0 ≡ true) × (union f.start (row_at s 0) ≡ row_at s 0)

-- a row that comes to a block, which is new there: the block waits then
abbrev pub arrived : SolverState → ℕ → Bits → SolverState
arrived s m row =
    record {
      rows = slice_set s.rows m (union row (row_at s m));
      reached = slice_set s.reached m true;
      waiting = slice_set s.waiting m true;
    }

-- a row that came to a block: where it is in the row of the block and the block was reached, nothing changed; else the
-- block waits
pub record Changes (old new : Flow) (m : ℕ) (row : Bits) : Type 0 where
  pub state : state_of new ≡ arrived (state_of old) m row
  pub kept : (c : ℕ) → Contains (blocks_in old) c → Contains (blocks_in new) c
  pub there : (waits (state_of old) m ≡ true) ⊎ Contains (blocks_in new) m
  pub only : (c : ℕ) → Contains (blocks_in new) c → Contains (blocks_in old) c ⊎ (c ≡ m)
  pub news : (union row (row_at (state_of old) m) ≢ row_at (state_of old) m) ⊎ (is_reached (state_of old) m ≡ false)
  pub longer : length (blocks_in new) ≤ length (blocks_in old) + 1

pub record Stays (old new : Flow) (m : ℕ) (row : Bits) : Type 0 where
  pub state : state_of new ≡ state_of old
  pub heap : blocks_in new ≡ blocks_in old
  pub reached : is_reached (state_of old) m ≡ true
  pub within : union row (row_at (state_of old) m) ≡ row_at (state_of old) m

abbrev pub Arrives : (old new : Flow) → ℕ → Bits → Type 0
Arrives old new m row = Changes old new m row ⊎ Stays old new m row

-- a list that has what another had, and this besides
pub record Grows (old new : List ℕ) (i : ℕ) : Type 0 where
  pub kept : (c : ℕ) → Contains old c → Contains new c
  pub there : Contains new i
  pub only : (c : ℕ) → Contains new c → Contains old c ⊎ (c ≡ i)

-- what a turn keeps: what holds of the work list, of which so many ways of a block are done then, and no more is left to
-- do than before
pub record Turns (f : Problem) (old new : Flow) (block done : ℕ) : Type 0 where
  pub good : Good f (state_of new) (blocks_in new) block done
  pub less : left new ≤ left old
  pub reached : (n : ℕ) → is_reached (state_of old) n ≡ true → is_reached (state_of new) n ≡ true
  pub started : Started f (state_of old) → Started f (state_of new)

-- the problem of an analysis: its width, the row it starts with and what it makes of rows, and a body
abbrev pub problem : ℕ → Bits → (Body → ℕ → ℕ → Bits → Bits) → ItemTable → Body → Problem
problem width first passed items body =
    record { blocks = length body.blocks; width = width; start = first; target = target items body; pass = passed body }
