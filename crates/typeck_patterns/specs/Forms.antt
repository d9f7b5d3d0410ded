-- The definitions over forms that are borrowed from a tree: `None` is a node that is none of the sort.
use Rattle.std.specs.Prelude.{ℕ, List, Option, Some, None}
use Rattle.mir_base.specs.declared.place_in_text.Pos.{Pos}
use Rattle.mir_base.specs.declared.rule.Rule.{Rule}
use Rattle.mir_ty.specs.declared.adt.Variant.{Variant}
use Rattle.mir_ty.specs.declared.ty.TyId.{TyId}
use Rattle.src_ast.specs.Syntax.{Word, syn, Shape, Pattern, MaybeSyn, nothing, just}
use Rattle.typed_tree.specs.Tree.{Node}
use Rattle.typing_rules.specs.Check.{Check, breaks}
use Rattle.typing_rules.specs.Patterns.{BoundPattern, field_pattern, lone_name, pattern, pattern_form}
use Rattle.typing_rules.specs.Rows.{PatternContext}
use Rattle.typing_rules.specs.Scope.{Env, NamedEntry}

abbrev pub pattern_as : Env → PatternContext → TyId → Pos → Option Pattern → List NamedEntry → Check BoundPattern
pattern_as env e ty at None earlier = breaks Rule.T20 at
pattern_as env e ty at (Some p) earlier = pattern_form env e ty at p earlier

abbrev pub field_as : Env → PatternContext → Variant → Pos → Option Shape → List NamedEntry →
    Check (Option (ℕ × Node) × List NamedEntry ×
    Option ℕ)
field_as env e v at None earlier = breaks Rule.T20 at
field_as env e v at (Some form) earlier = field_pattern env e v (syn at form) earlier

-- the pattern of a field; without one its name is the pattern
abbrev pub inside_as : Env → Pos → PatternContext → TyId → Word → MaybeSyn → List NamedEntry → Check BoundPattern
inside_as env at e ty name nothing earlier = lone_name env at e ty name earlier
inside_as env at e ty name (just inside) earlier = pattern env e ty inside earlier
