-- The bodies of items over forms that are borrowed from a tree: `None` is a node that is none of the sort.
use Rattle.std.specs.Prelude.{Option, Some, None}
use Rattle.mir_base.specs.declared.place_in_text.Pos.{Pos}
use Rattle.mir_base.specs.declared.rule.Rule.{Rule}
use Rattle.src_ast.specs.Syntax.{Syn, Item, ImplItem, FnItem, MaybeSyn, Syns, list_of}
use Rattle.src_ast.specs.View.{view}
use Rattle.src_tree.specs.View.{Single, a_token, a_node}
use Rattle.typing_rules.specs.Bodies.{fn_body}
use Rattle.typing_rules.specs.Check.{Check, ◌>>=◌, ◌>>◌, pure, breaks, the_items}
use Rattle.typing_rules.specs.Program.{Before, all_fn_rules, block_of, bodies_of, in_impl, item_rules}
use Rattle.typing_rules.specs.Scope.{Env, adt_named}

-- ---- functions and methods

abbrev pub fn_check : Env → Pos → Syns → MaybeSyn → MaybeSyn → Check (Unit {0})
fn_check env at params answer block = do
  _ ← fn_body env at params answer (block_of block at)
  pure tt

abbrev pub fn_by : Env → Pos → Option Item → Check (Unit {0})
fn_by env at (Some (FnItem name params answer block)) = fn_check env at params answer block
fn_by env at _ = breaks Rule.T20 at

-- ---- items

abbrev pub bodies_by : Env → Pos → Option Item → Check (Unit {0})
bodies_by env at (Some (ImplItem trait_ name methods)) = do
  items ← the_items
  all_fn_rules (in_impl env (adt_named items name.1)) (list_of methods)
bodies_by env at (Some (FnItem name params answer block)) = fn_check env at params answer block
bodies_by env at _ = pure tt

-- an item, and then its bodies
abbrev pub item_and_bodies : Env → Before → Syn → Check Before
item_and_bodies env before i = do
  next ← item_rules env before i
  bodies_of env i
  pure next

abbrev pub piece_and_bodies : Env → Before → Single → Check Before
piece_and_bodies env before (a_token t) = pure before
piece_and_bodies env before (a_node g) = item_and_bodies env before (view g)
