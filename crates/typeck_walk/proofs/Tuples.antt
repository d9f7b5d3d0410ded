-- A tuple without parts is `()`.
use Rattle.std.proofs.Common.{◌≡◌, true, false, List, Option, refl}
use Rattle.mir_base.specs.declared.place_in_text.Pos.{Pos}
use Rattle.mir_ty.specs.declared.ty.TyId.{TyId}
use Rattle.src_ast.specs.Seen.{is_none}
use Rattle.src_ast.specs.Syntax.{Syns, no_syn, a_syn}
use Rattle.typed_tree.specs.Tree as tree
use Rattle.typed_tree.specs.Tree.{Nodes}
use Rattle.typing_rules.specs.Check.{Check}
use Rattle.typing_rules.specs.Patterns.{count_of}
use Rattle.typing_rules.specs.Places.{unit}
use Rattle.typing_rules.specs.Rows.{leaf, tuple_row}
use Rattle.typing_rules.specs.Typed.{tuple}

pub no_parts : (at : Pos) (ss : Syns) (f : List (Option TyId) → Check (Nodes × List TyId)) (expected : Option TyId) →
    is_none ss ≡ true → tuple at ss f expected ≡ leaf at unit tree.UnitValue expected
no_parts at no_syn f expected h = refl
no_parts at (a_syn x xs) f expected h = absurd (cc)

pub some_parts : (at : Pos) (ss : Syns) (f : List (Option TyId) → Check (Nodes × List TyId)) (expected : Option TyId) →
    is_none ss ≡ false → tuple at ss f expected ≡ tuple_row at (count_of ss) f expected
some_parts at no_syn f expected h = absurd (cc)
some_parts at (a_syn x xs) f expected h = refl
