-- An element of an array is reached.
use Rattle.std.proofs.Common.{◌≡◌, ◌∙◌, ◌∷◌, ◌++◌, ℕ, false, List, [], refl, sym, ap}
use Rattle.mir_ty.specs.ItemTable.{ItemTable}
use Rattle.src_meaning.specs.Forms.{LoopsAndGuards, Into, site_of_key}
use Rattle.src_meaning.specs.Shape.{NodeHead, shape, shape_of}
use Rattle.store_model.specs.Effects as effects
use Rattle.store_model.specs.Places.Place.{Place, Step, ToPart, ToField, ToContent, ToElement, before_element}
use Rattle.typed_tree.specs.Tree as tree
use Rattle.lower_code.specs.Forms.{code, array_around, reach_element}
use Rattle.lower_code.specs.Ops.{CodeWord, Then, Acts, onto}

-- the array around an element is that around its base
element_array : (steps : List Step) (index : ℕ) → before_element (steps ++ ToElement index ∷ []) ≡ before_element steps
element_array [] index = refl
element_array (ToPart n ∷ steps) index = ap (λ rest. ToPart n ∷ rest) (element_array steps index)
element_array (ToField v n ∷ steps) index = ap (λ rest. ToField v n ∷ rest) (element_array steps index)
element_array (ToContent ∷ steps) index = ap (λ rest. ToContent ∷ rest) (element_array steps index)
element_array (ToElement i ∷ steps) index = refl

module _ (items : ItemTable) (h : NodeHead) (around : LoopsAndGuards) where
  -- the words of an element, behind its base and its index
  pub of_element : (base index : tree.Node) (count : ℕ) (array : Place) (before reached made after : List CodeWord) → after ≡ Then ∷ Then ∷ Then ∷ Acts (code items index).head.id (effects.Bounds (effects.Copied (site_of_key (code items index).head.id)) count) ∷ Acts h.id (effects.Touch (record { node = h.id; place = array })) ∷ made → made ≡ onto ((code items index).evaluates around false (Into (code items index).head.id)) reached → reached ≡ onto ((code items base).reaches around) before → array ≡ array_around ((shape items base).place around.aliases) → after ≡ onto (reach_element h (shape_of items (tree.Index base index count) h) (code items base) (code items index) count around) before
  of_element (tree.node id at ty by form) (tree.node id' at' ty' by' form') count array before reached made after is indexed based around_it =
      let base : tree.Node = tree.node id at ty by form in
      let index : tree.Node = tree.node id' at' ty' by' form' in
      let p : Place = (shape items base).place around.aliases in
      let words : Place → List CodeWord → List CodeWord =
      λ a rest. Then ∷ Then ∷ Then ∷ Acts id' (effects.Bounds (effects.Copied (site_of_key id')) count) ∷ Acts h.id (effects.Touch (record { node = h.id; place = a })) ∷ rest in
      let same : array_around p ≡ array_around (record p { steps = p.steps ++ ToElement id' ∷ [] }) =
      λ i. record p { steps = sym (element_array p.steps id') i } in
      is
      ∙ ap (words array) (indexed ∙ ap (onto ((code items index).evaluates around false (Into id'))) based)
      ∙ ap (λ (a : Place). words a (onto ((code items index).evaluates around false (Into id')) (onto ((code items base).reaches around) before))) (around_it ∙ same)
