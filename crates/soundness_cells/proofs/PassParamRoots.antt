-- The local of a parameter is one of those that follow the result: so a parameter that is a reference is among those of
-- which what they name may be used.
use Rattle.std.proofs.Common.{◌≡◌, inl, inr, ◌⊎◌, ℕ, zero, suc, ◌+◌, ◌<◌, ◌==◌, ◌&&◌, not, nat_lt, Bool, true, false, List, [], ◌∷◌, ◌++◌, map, length, Some, if◌then◌else◌, refl, ap, sym, ◌∙◌, subst, arith}
use Rattle.std.specs.Prelude.{slice_get, option_and_then}
use Rattle.std.specs.Cmp.Derive.{both_true}
use Rattle.std.proofs.lemmas.Bool.{false≢true, ltb-true, lt-ltb}
use Rattle.std.proofs.lemmas.Bool.Decides.{Decides-eqb}
use Rattle.std.proofs.lemmas.List.{length-map}
use Rattle.mir_ty.specs.declared.ty.TyId.{TyId}
use Rattle.mir_ty.specs.ItemTable.{ItemTable, type_at}
use Rattle.store_model.specs.Places.Place.{is_reference}
use Rattle.src_meaning.specs.Locals.OfBody.{answer_key, param_key, locals, local_of, local_ty}
use Rattle.src_meaning.specs.Scopes.{Entry}
use Rattle.typed_tree.specs.Nodes.{nodes_of, param_nodes}
use Rattle.typed_tree.specs.Tree.{ParamTree, BodyTree}
use Rattle.soundness_values.proofs.CheckedBodies.{is_reference_param}
use Rattle.soundness_cells.proofs.PassCellPlaces.{Root}
use Rattle.soundness_cells.proofs.PassLocals.{EntryIn, keys, stop, within_so}
use Rattle.soundness_cells.proofs.PassNumbers.{Numbered, Rises, numbered_left, numbered_right, rises_apart, own_number}

abbrev as_entry : ParamTree → Entry
as_entry param = record { key = param_key param; ty = param.ty }

abbrev pub ParamIn : List ParamTree → ParamTree → Type 0
ParamIn [] param = ⊥
ParamIn (x ∷ params) param = (x ≡ param) ⊎ ParamIn params param

-- it comes among the first entries
early : (params : List ParamTree) (inside rest : List Entry) (param : ParamTree) → ParamIn params param →
    stop (keys ((map as_entry params ++ inside) ++ rest)) (param_key param) < length params
early [] inside rest param i = absurd i
early (x ∷ params) inside rest param i = by (param_key x == param_key param) refl i
    (λ j. early params inside rest param j)
  where
    by : (b : Bool) → (param_key x == param_key param) ≡ b → (x ≡ param) ⊎ ParamIn params param →
        (ParamIn params param →
        stop (keys ((map as_entry params ++ inside) ++ rest)) (param_key param) < length params) →
        (if not b then 1 + stop (keys ((map as_entry params ++ inside) ++ rest)) (param_key param) else 0)
        < suc (length params)
    by true e j later = let positive : 0 < suc (length params) = omega arith in positive
    by false e (inl same) later = absurd (false≢true (sym e
        ∙ (Decides-eqb (param_key x) (param_key param)).1 (ap (λ (p : ParamTree). param_key p) same)))
    by false e (inr j) later =
        let less : stop (keys ((map as_entry params ++ inside) ++ rest)) (param_key param) < length params = later j in
        let more : 1 + stop (keys ((map as_entry params ++ inside) ++ rest)) (param_key param) < suc (length params) =
        omega (less, arith) in more

numbered_in : (params : List ParamTree) (param : ParamTree) → ParamIn params param →
    Numbered (param_nodes params) (param_key param)
numbered_in [] param i = absurd i
numbered_in (x ∷ params) param (inl same) = numbered_left (nodes_of x.pattern) (param_nodes params) (param_key param)
    (subst (λ (p : ParamTree). Numbered (nodes_of x.pattern) (param_key p)) same (own_number x.pattern))
numbered_in (x ∷ params) param (inr i) =
    numbered_right (nodes_of x.pattern) (param_nodes params) (param_key param) (numbered_in params param i)

-- behind one entry with another key
behind_one : (first : Entry) (es : List Entry) (key m : ℕ) → (first.key == key) ≡ false → stop (keys es) key < m →
    (0 < stop (keys (first ∷ es)) key) × (stop (keys (first ∷ es)) key < 1 + m)
behind_one first es key m e less = by (first.key == key) e
  where
    by : (b : Bool) → b ≡ false → (0 < (if not b then 1 + stop (keys es) key else 0))
        × ((if not b then 1 + stop (keys es) key else 0) < 1 + m)
    by true e = absurd (false≢true (sym e))
    by false e =
        let positive : 0 < 1 + stop (keys es) key = omega arith in
        let more : 1 + stop (keys es) key < 1 + m = omega (less, arith) in (positive, more)

module _ (items : ItemTable) (body : BodyTree) (rise : Rises (param_nodes body.params ++ nodes_of body.block)) where
  local_in : (answer : Entry) (inside rest : List Entry) (param : ParamTree) → answer.key ≡ answer_key body →
      ParamIn body.params param →
      (0 < stop (keys (answer ∷ ((map as_entry body.params ++ inside) ++ rest))) (param_key param))
      × (stop (keys (answer ∷ ((map as_entry body.params ++ inside) ++ rest))) (param_key param)
      < 1 + length body.params)
  local_in answer inside rest param a i = behind_one answer ((map as_entry body.params ++ inside) ++ rest) (param_key param)
      (length body.params) (differ (answer.key == param_key param) refl) (early body.params inside rest param i)
    where
      differ : (b : Bool) → (answer.key == param_key param) ≡ b → b ≡ false
      differ false e = refl
      differ true e = absurd (rises_apart (param_nodes body.params) (nodes_of body.block) rise (param_key param)
          (numbered_in body.params param i)
          (subst (Numbered (nodes_of body.block)) (sym a ∙ (Decides-eqb answer.key (param_key param)).0 e)
          (own_number body.block)))

  long_in : (answer : Entry) (inside rest : List Entry) (n : ℕ) → n < 1 + length body.params →
      n < length (keys (answer ∷ ((map as_entry body.params ++ inside) ++ rest)))
  long_in answer inside rest n l = more body.params n l
    where
      more : (params : List ParamTree) (n : ℕ) → n < 1 + length params →
          n < suc (length (keys ((map as_entry params ++ inside) ++ rest)))
      more [] n l = let positive : n < suc (length (keys (inside ++ rest))) = omega (l, arith) in positive
      more (x ∷ params) zero l =
          let positive : 0 < suc (suc (length (keys ((map as_entry params ++ inside) ++ rest)))) = omega arith in
          positive
      more (x ∷ params) (suc n) l =
          let less : n < 1 + length params = omega (l, arith) in
          let rest_less : n < suc (length (keys ((map as_entry params ++ inside) ++ rest))) = more params n less in
          let all : suc n < suc (suc (length (keys ((map as_entry params ++ inside) ++ rest)))) =
          omega (rest_less, arith) in all

  -- a parameter that is a reference
  pub param_root : (param : ParamTree) → ParamIn body.params param →
      local_ty items body (local_of items body (param_key param)) ≡ Some param.ty →
      Root items body (param_key param) param.ty
  param_root param i c r =
      let first : Entry = record { key = answer_key body; ty = body.answer } in
      let l = local_in first _ _ param refl i in
      let same : local_of items body (param_key param) ≡ stop (keys (locals items body)) (param_key param) =
      within_so (keys (locals items body)) (param_key param)
      (lt-ltb _ _ (long_in first _ _ (stop (keys (locals items body)) (param_key param)) l.1)) in
      subst (λ n. is_reference_param items body n ≡ true) (sym same) (both_true
      (both_true (lt-ltb 0 (stop (keys (locals items body)) (param_key param)) l.0)
      (lt-ltb (stop (keys (locals items body)) (param_key param)) (1 + length body.params) l.1))
      (subst (λ n. is_reference (option_and_then (type_at items) (local_ty items body n)) ≡ true) same
      (subst (λ o. is_reference (option_and_then (type_at items) o) ≡ true) (sym c) r)))
