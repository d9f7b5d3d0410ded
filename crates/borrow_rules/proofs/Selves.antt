-- The first parameter of a `Drop` body.
use Rattle.std.proofs.Common.{◌≡◌, Bool, true, List, [], ◌∷◌, map, Option, Some, None, slice_get, if◌then◌else◌, refl, ap, ◌∙◌}
use Rattle.mir_ty.specs.ItemTable.{ItemTable}
use Rattle.typed_tree.specs.Nodes.{number_of}
use Rattle.typed_tree.specs.Tree.{BodyTree}
use Rattle.typed_tree.specs.View.{body_of, param_tree}
use Rattle.typed_tree.specs.declared.body.Param as rust
use Rattle.typed_tree.specs.declared.body.TBody.{TBody}
use Rattle.typing_rules.specs.Borrows.{of_self, replaced_self, replacements}
use Rattle.typing_rules.specs.Check.{Broken}
use Rattle.typing_rules.specs.Replaced.{BodyParameter}
use Rattle.mir_ty.specs.DropBodies.{is_drop_body}

module _ (items : ItemTable) (params : List BodyParameter) (body : TBody) where
  abbrev B : BodyTree
  B = body_of body

  first_one : (ps : List rust.Param) (self : rust.Param) → slice_get ps 0 ≡ Some self → of_self items params B (map param_tree ps) ≡ replacements items params (number_of (param_tree self).pattern) B
  first_one [] self at = absurd (cc)
  first_one (p ∷ ps) self at = ap (λ (o : Option rust.Param). of_first o) at
    where
      of_first : Option rust.Param → List Broken
      of_first None = []
      of_first (Some q) = replacements items params (number_of (param_tree q).pattern) B

  no_one : (ps : List rust.Param) → slice_get ps 0 ≡ None → of_self items params B (map param_tree ps) ≡ []
  no_one [] at = refl
  no_one (p ∷ ps) at = absurd (cc)

  pub with_self : (self : rust.Param) → slice_get body.params 0 ≡ Some self → is_drop_body items body.number ≡ true → replaced_self items params B ≡ replacements items params (number_of (param_tree self).pattern) B
  with_self self at drops = ap (λ (b : Bool). if b then of_self items params B B.params else []) drops ∙ first_one body.params self at

  pub without_self : slice_get body.params 0 ≡ None → is_drop_body items body.number ≡ true → replaced_self items params B ≡ []
  without_self at drops = ap (λ (b : Bool). if b then of_self items params B B.params else []) drops ∙ no_one body.params at
