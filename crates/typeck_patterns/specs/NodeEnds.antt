-- How a pattern ends in its node alone: bindings stand apart in the checker.
use Rattle.std.specs.Prelude.{ℕ, Bool, true, ◌&&◌, not}
use Rattle.mir_base.specs.declared.place_in_text.Pos.{Pos}
use Rattle.mir_base.specs.declared.rule.Rule.{Rule}
use Rattle.mir_ty.specs.declared.ty.Ty.{Ty}
use Rattle.mir_ty.specs.declared.ty.TyId.{TyId}
use Rattle.typed_tree.specs.Tree.{Node, Fields, Form, no_field}
use Rattle.typing_rules.specs.Check.{Check, ◌>>=◌, ◌>>◌, pure, obeys, the_items, number, interned}
use Rattle.typing_rules.specs.Patterns.{PatternTarget, is_test, parts_form, tested_if}
use Rattle.typing_rules.specs.Places.{a_node_of}
use Rattle.well_typed.specs.Types.{is_same}

-- a tuple, an array or alternatives, once the parts are checked
abbrev pub counted_node : ℕ → Pos → TyId → Form → Bool → Check Node
counted_node id at ty form is_whole = do
  obeys Rule.T04 at is_whole
  pure (a_node_of id at ty form)

-- ---- structs and variants

-- the number of such a pattern, for a place of the type that its path names
abbrev pub target_begun : Pos → TyId → PatternTarget → Check ℕ
target_begun at ty t = do
  id ← number
  self ← interned (Ty.Adt t.adt)
  obeys Rule.T03 at (is_same ty self)
  pure id

abbrev pub tested_node : ℕ → Pos → Bool → TyId → PatternTarget → Fields → Check Node
tested_node id at takes_all ty t fields = do
  items ← the_items
  obeys Rule.T18 at (not (takes_all && is_test items t))
  pure (tested_if (is_test items t) (a_node_of id at ty (parts_form items t fields)))

abbrev pub known_node : ℕ → Pos → Bool → TyId → PatternTarget → Fields → Bool → Check Node
known_node id at takes_all ty t fields is_known = do
  obeys Rule.T12 at is_known
  tested_node id at takes_all ty t fields

-- once the parts are checked
abbrev pub target_node : ℕ → Pos → Bool → TyId → PatternTarget → Fields → Bool → Bool → Check Node
target_node id at takes_all ty t fields is_count is_known = do
  obeys Rule.T04 at is_count
  known_node id at takes_all ty t fields is_known

-- without parts
abbrev pub partless_node : Pos → Bool → TyId → PatternTarget → Bool → Check Node
partless_node at takes_all ty t is_whole = do
  id ← target_begun at ty t
  target_node id at takes_all ty t no_field is_whole true
