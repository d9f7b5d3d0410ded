-- What is broken by the parameters that were found is what is broken by the least set.
use Rattle.std.proofs.Common.{◌≡◌, ℕ, Bool, List, [], ◌∷◌, ◌++◌, map, Some, None, if◌then◌else◌, refl, ap}
use Rattle.mir_base.specs.declared.place_in_text.Pos.{Pos}
use Rattle.mir_base.specs.declared.rule.Rule.{Rule}
use Rattle.typed_tree.specs.Tree.{BodyTree, ParamTree, ProgramTree}
use Rattle.typed_tree.specs.Nodes.{number_of}
use Rattle.mir_ty.specs.DropBodies.{is_drop_body}
use Rattle.typing_rules.specs.Borrows.{all_broken, broken, of_self, overlaps, replaced_self, replacements, replacing}
use Rattle.typing_rules.specs.Check.{Broken}
use Rattle.typing_rules.specs.Replaced.{BodyParameter, Passing, bodies_of, is_among, passings, replaceable, stores}
use Rattle.borrow_rules.proofs.Sets.{any_alike, filter_map_alike, flat_map_alike}
use Rattle.borrow_rules.specs.Answers.{faults_of}
use Rattle.borrow_rules.specs.Found.{IsFound}

module _ (p : ProgramTree) (params : List BodyParameter) (found : IsFound p params) where
  replacing_alike : (x : Passing) → replacing p.items params x ≡ replacing p.items (replaceable p) x
  replacing_alike x =
      ap (λ (b : Bool). if b then Some x.at else None)
      (any_alike (is_among params x.number) (is_among (replaceable p) x.number) (found x.number) (bodies_of p.items x.callee))

  replacements_alike : (self : ℕ) (body : BodyTree) → replacements p.items params self body ≡ replacements p.items (replaceable p) self body
  replacements_alike self body =
      ap (λ (l : List Pos). map (broken Rule.T15) (stores self body ++ l))
      (filter_map_alike (replacing p.items params) (replacing p.items (replaceable p)) replacing_alike (passings self body))

  of_self_alike : (body : BodyTree) (ps : List ParamTree) → of_self p.items params body ps ≡ of_self p.items (replaceable p) body ps
  of_self_alike body [] = refl
  of_self_alike body (self ∷ rest) = replacements_alike (number_of self.pattern) body

  self_alike : (body : BodyTree) → replaced_self p.items params body ≡ replaced_self p.items (replaceable p) body
  self_alike body =
      ap (λ (l : List Broken). if is_drop_body p.items body.number then l else []) (of_self_alike body body.params)

  pub faults_alike : faults_of p.items params p.bodies ≡ all_broken p
  faults_alike =
      flat_map_alike (λ (body : BodyTree). overlaps body ++ replaced_self p.items params body)
      (λ (body : BodyTree). overlaps body ++ replaced_self p.items (replaceable p) body)
      (λ body. ap (λ (l : List Broken). overlaps body ++ l) (self_alike body)) p.bodies
