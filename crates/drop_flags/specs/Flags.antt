-- What contracts see of the flags of a body, and the stores into them from the local of the first flag on.
use Rattle.std.specs.Prelude.{◌≡◌, ℕ, suc, ◌+◌, ◌<◌, ◌^◌, nat_lt, nat_le, ◌&&◌, Bool, true, List, [], ◌∷◌, ◌++◌, map, length, Some, slice_get, if◌then◌else◌}
use Rattle.mir_ty.specs.ItemTable.{ItemTable}
use Rattle.store_model.specs.Places.Place.{Place}
use Rattle.cfg_graph.specs.declared.graph.Body.{Body}
use Rattle.cfg_graph.specs.declared.place.Operand.{Operand}
use Rattle.cfg_graph.specs.declared.statement.Stmt.{Stmt}
use Rattle.cfg_graph.specs.Moves.Gone.{counts, is_at_or_above}
use Rattle.cfg_graph.specs.Places.{named}
use Rattle.drop_elaborate.specs.Ladder.{local_place}
use Rattle.drop_flags.specs.declared.flags.Flags.{Flags}

-- the paths that have flags, in the order of these
abbrev pub paths_of : Flags → List Place
paths_of flags = map named flags.paths

-- 32 bits count the locals up to the last flag
abbrev pub HasRoom : Flags → Type 0
HasRoom flags = flags.first + length flags.paths < 2 ^ 32

-- The flags are those of a body: they are the locals after its own, and each of their paths is watched to its end.
pub record AreFlags (items : ItemTable) (body : Body) (flags : Flags) : Type 0 where
  pub params : flags.params ≡ body.params
  pub first : flags.first ≡ length body.locals
  pub watched : (n : ℕ) (path : Place) → slice_get (paths_of flags) n ≡ Some path → counts items body path ≡ true

-- what the code goes on with; no public contract speaks of it
abbrev pub store : (flag : ℕ) → Bool → Stmt
store flag present = Stmt.Put (local_place flag) (Operand.Truth present)

-- into the flag of a path that is at or below a place
abbrev pub store_if : Bool → (flag : ℕ) → Bool → List Stmt
store_if within flag present = if within then store flag present ∷ [] else []

-- into the flags at and below a place; the first of these paths has this flag
abbrev pub stores_below : Place → Bool → List Place → (flag : ℕ) → List Stmt
stores_below place present [] flag = []
stores_below place present (path ∷ paths) flag =
    store_if (is_at_or_above place path) flag present ++ stores_below place present paths (suc flag)

-- one of the first locals after the result, so many
abbrev pub is_param : (params local : ℕ) → Bool
is_param params local = nat_lt 0 local && nat_le local params

-- before anything is done
abbrev pub first_stores : (params : ℕ) → List Place → (flag : ℕ) → List Stmt
first_stores params [] flag = []
first_stores params (path ∷ paths) flag =
    store flag (is_param params path.local) ∷ first_stores params paths (suc flag)
