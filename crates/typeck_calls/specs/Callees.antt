-- What paths and callees name, in Rust as the rules of typing see it.
use Rattle.std.specs.Prelude.{ℕ, suc, [], Option, Some, None, slice_get}
use Rattle.std.specs.Option.{option_map_or}
use Rattle.mir_base.specs.declared.place_in_text.Pos.{Pos}
use Rattle.mir_ty.specs.ItemTable.{ItemTable}
use Rattle.src_ast.specs.Syntax.{Syn, syn, AnExpression, Expression, Parens}
use Rattle.typing_rules.specs.Named as named
use Rattle.typing_rules.specs.Named.{callee_of, callee_by, function_by, place_inside_form}
use Rattle.typing_rules.specs.Scope.{Env}
use Rattle.well_typed.specs.Types.{variant_at}
use Rattle.typeck_calls.specs.declared.callees.Callee.{Callee}
use Rattle.typeck_calls.specs.declared.paths.PathValue.{PathValue}

abbrev pub value_seen : PathValue → named.PathValue
value_seen (PathValue.Makes adt variant) = named.Makes adt variant
value_seen (PathValue.IsBroken rule) = named.IsBroken rule

-- a body and a variant by their numbers, with their heads and fields in the items
abbrev pub callee_seen : ItemTable → Callee → named.Callee
callee_seen items (Callee.Function body) = function_by items body (slice_get items.bodies body)
callee_seen items (Callee.Constructor adt variant) =
    named.Constructor adt variant (option_map_or (λ v. v.fields) (variant_at items adt variant) [])
callee_seen items Callee.Prints = named.Prints
callee_seen items Callee.Asks = named.Asks
callee_seen items Callee.Drops = named.Drops
callee_seen items Callee.Forgets = named.Forgets
callee_seen items Callee.Boxes = named.Boxes
callee_seen items Callee.Value = named.AValue
callee_seen items (Callee.Unnamed rule) = named.Unnamed rule
callee_seen items Callee.NoCallee = named.NoCallee

-- a callee by its form, where it has the form of an expression
abbrev pub callee_seen_by : ItemTable → Env → Option Expression → named.Callee
callee_seen_by items env None = named.AValue
callee_seen_by items env (Some e) = callee_by items env e

-- where a node stands without the parentheses around it, by its place and its form, where it has that of an expression
abbrev pub place_seen_by : Pos → Option Expression → Pos
place_seen_by at None = at
place_seen_by at (Some e) = place_inside_form at e

-- how many parentheses stand around an expression
abbrev mutual
  pub parens : Syn → ℕ
  parens (syn at (AnExpression e)) = parens_form e
  parens _ = 0

  pub parens_form : Expression → ℕ
  parens_form (Parens inside) = suc (parens inside)
  parens_form _ = 0

abbrev pub parens_seen : Option Expression → ℕ
parens_seen None = 0
parens_seen (Some e) = parens_form e
