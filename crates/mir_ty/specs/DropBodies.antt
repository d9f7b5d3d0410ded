-- The bodies of `Drop` impls.
use Rattle.std.specs.Prelude.{ℕ, Bool, false, ◌==◌}
use Rattle.std.specs.List.{list_any}
use Rattle.std.specs.Option.{option_map_or}
use Rattle.mir_ty.specs.declared.adt.Adt.{Adt}
use Rattle.mir_ty.specs.ItemTable.{ItemTable}

-- the body of the `Drop` impl of this struct or enum
abbrev pub is_its_drop_body : ℕ → Adt → Bool
is_its_drop_body body adt = option_map_or (λ b. b == body) adt.drop_body false

-- the body of the `Drop` impl of a struct or an enum
abbrev pub is_drop_body : ItemTable → ℕ → Bool
is_drop_body items body = list_any (λ adt. option_map_or (λ b. b == body) adt.drop_body false) items.adts
