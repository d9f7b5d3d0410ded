-- The locals of a body, part by part.
use Rattle.std.proofs.Common.{◌≡◌, ◌∷◌, ◌++◌, ℕ, List, [], map, refl, ap}
use Rattle.std.proofs.lemmas.List.{append_cancel_left, append_cancel_right}
use Rattle.mir_ty.specs.declared.ty.TyId.{TyId}
use Rattle.mir_ty.specs.ItemTable.{ItemTable}
use Rattle.src_meaning.specs.Locals.OfBody as of_body
use Rattle.src_meaning.specs.Scopes.{Entry}
use Rattle.typed_tree.specs.Nodes.{number_of}
use Rattle.typed_tree.specs.Tree.{Node, node, ParamTree, BodyTree}
use Rattle.lower_locals.specs.View.{param_entry, inside, inside_params}

module _ (items : ItemTable) where
  abbrev parts : List ParamTree → TyId → Node → List Entry
  parts params answer block =
      (record { key = number_of block; ty = answer }) ∷ map param_entry params ++ inside_params items params ++ inside items block

  abbrev with_params : ℕ → List ParamTree → TyId → Node → BodyTree
  with_params number params answer block = record { number = number; params = params; answer = answer; block = block }

  one_more_param : (number : ℕ) (pattern : Node) (ty : TyId) (params : List ParamTree) (answer : TyId) (block : Node) →
      of_body.locals items (with_params number params answer block) ≡ parts params answer block →
      of_body.locals items (with_params number ((record { pattern = pattern; ty = ty }) ∷ params) answer block)
      ≡ parts ((record { pattern = pattern; ty = ty }) ∷ params) answer block
  one_more_param number (node p p_at p_ty p_by p_form) ty params answer (node id at b_ty by form) same =
      let first = (record { key = id; ty = answer }) ∷ map param_entry params in
      let both = (record { key = id; ty = answer }) ∷ (record { key = p; ty = ty }) ∷ map param_entry params in
      ap (λ rest. both ++ (of_body.cells_in items p_form ++ rest) ++ of_body.cells_in items form)
      (append_cancel_left first _ _ (append_cancel_right _ _ (of_body.cells_in items form) same))

  in_params : (number : ℕ) (params : List ParamTree) (answer : TyId) (block : Node) →
      of_body.locals items (with_params number params answer block) ≡ parts params answer block
  in_params number [] answer (node id at ty by form) = refl
  in_params number (param ∷ params) answer block =
      one_more_param number param.pattern param.ty params answer block (in_params number params answer block)

  pub locals_are : (body : BodyTree) → of_body.locals items body ≡ parts body.params body.answer body.block
  locals_are body = in_params body.number body.params body.answer body.block
