-- The nodes that were made last, as the fields of a value.
use Rattle.std.specs.Prelude.{ℕ, [], ◌∷◌, option_and_then, slice_get}
use Rattle.mir_ty.specs.ItemTable.{ItemTable}
use Rattle.mir_ty.specs.declared.adt.Variant.{Variant}
use Rattle.typed_tree.specs.Tree.{Nodes, no_node, a_node, Fields, no_field, a_field}
use Rattle.typing_rules.specs.Rows.{Given}
use Rattle.typing_rules.specs.Typed.{or_zero, variant_of as variant_by}

-- nodes with the numbers of their fields
abbrev pub numbered_by : Given → Nodes → Fields
numbered_by [] nodes = no_field
numbered_by (number ∷ given) no_node = no_field
numbered_by (number ∷ given) (a_node first rest) = a_field (or_zero number) first (numbered_by given rest)

-- the number at a place, 0 where there is none
abbrev pub number_in : Given → ℕ → ℕ
number_in given place = or_zero (option_and_then (λ number. number) (slice_get given place))

-- a variant by its number, that of a struct by 0
abbrev pub variant_of : ItemTable → ℕ → ℕ → Variant
variant_of items adt variant = variant_by items (record { adt = adt; variant = variant })
