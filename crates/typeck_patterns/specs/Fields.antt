-- The nodes that were made last, as the fields of a pattern around them. A name that is none of a field has no node.
use Rattle.std.specs.Prelude.{ℕ, List, [], ◌∷◌, reverse, Option, Some, None}
use Rattle.typed_tree.specs.Tree.{Node, Fields, no_field, a_field}
use Rattle.typeck_checker.specs.Stand.{top, below}
use Rattle.typing_rules.specs.Rows.{Given}

abbrev pub with_last : Option ℕ → List Node → Fields → Fields
with_last None ns others = others
with_last (Some n) ns others = a_field n (top ns) others

abbrev pub below_if : Option ℕ → List Node → List Node
below_if None ns = ns
below_if (Some n) ns = below ns

-- the fields of these numbers, the last one first, before some others
abbrev pub fields_on : Given → List Node → Fields → Fields
fields_on [] ns others = others
fields_on (g ∷ gs) ns others = fields_on gs (below_if g ns) (with_last g ns others)

abbrev pub below_on : Given → List Node → List Node
below_on [] ns = ns
below_on (g ∷ gs) ns = below_on gs (below_if g ns)

-- the fields of these numbers, and what stands below them
abbrev pub last_fields : Given → List Node → Fields
last_fields given ns = fields_on (reverse given) ns no_field

abbrev pub below_given : Given → List Node → List Node
below_given given ns = below_on (reverse given) ns
