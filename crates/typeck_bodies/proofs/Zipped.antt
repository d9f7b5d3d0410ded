-- Patterns and types of parameters, one behind another.
use Rattle.std.proofs.Common.{◌≡◌, List, [], ◌∷◌, ◌++◌, length, map, slice_get, refl, ap}
use Rattle.mir_ty.specs.declared.ty.TyId.{TyId}
use Rattle.typed_tree.specs.Tree.{ParamTree}
use Rattle.typed_tree.specs.View.{nodes_from, tree_of}
use Rattle.typed_tree.specs.declared.node.Node.{Node}
use Rattle.typeck_bodies.specs.Whole.{one_param, params_from}

abbrev pub zipped : List Node → List TyId → List ParamTree
zipped patterns tys = params_from (nodes_from (map tree_of patterns)) tys

pub one_more : (patterns : List Node) (pattern : Node) (tys : List TyId) →
    zipped (patterns ++ pattern ∷ []) tys ≡ zipped patterns tys ++ one_param (tree_of pattern) (slice_get tys (length patterns))
one_more [] pattern [] = refl
one_more [] pattern (t ∷ tys) = refl
one_more (p ∷ patterns) pattern [] = refl
one_more (p ∷ patterns) pattern (t ∷ tys) =
    ap (λ (l : List ParamTree). record { pattern = tree_of p; ty = t } ∷ l) (one_more patterns pattern tys)
