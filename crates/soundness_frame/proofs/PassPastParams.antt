-- The local of a node of the block is that of no parameter, since the numbers of nodes rise: so a borrow goes to a local
-- that is no parameter, and a reference is passed out of one.
use Rattle.std.proofs.Common.{◌≡◌, ◌⊎◌, inl, inr, ℕ, zero, suc, ◌+◌, ◌<◌, ◌≤◌, ◌&&◌, nat_lt, Bool, true, false, List, [], ◌∷◌, ◌++◌, map, length, Some, refl, ap, subst, arith}
use Rattle.std.specs.Prelude.{slice_get, option_and_then}
use Rattle.std.proofs.lemmas.Bool.{ltb-true}
use Rattle.std.proofs.lemmas.Option.{same_Some}
use Rattle.mir_ty.specs.ItemTable.{ItemTable, type_at}
use Rattle.store_model.specs.Places.Place.{is_reference}
use Rattle.src_meaning.specs.Locals.OfBody.{param_key, locals, local_of, local_ty}
use Rattle.src_meaning.specs.Scopes.{Entry}
use Rattle.typed_tree.specs.Nodes.{nodes_of, param_nodes}
use Rattle.typed_tree.specs.Tree.{Node, ParamTree, BodyTree}
use Rattle.soundness_values.proofs.CheckedBodies.{is_reference_param}
use Rattle.soundness_cells.proofs.PassLocals.{at_local}
use Rattle.soundness_cells.proofs.PassNumbers.{Numbered, Rises, numbered_left, numbered_right, rises_apart, own_number}

abbrev as_entry : ParamTree → Entry
as_entry param = record { key = param_key param; ty = param.ty }

-- the first entries are those of parameters
of_param : (params : List ParamTree) (inside rest : List Entry) (i : ℕ) (e : Entry) → i < length params →
    slice_get ((map as_entry params ++ inside) ++ rest) i ≡ Some e → Numbered (param_nodes params) e.key
of_param [] inside rest i e l h = absurd (let never : ⊥ = omega (arith, l) in never)
of_param (param ∷ params) inside rest zero e l h = numbered_left (nodes_of param.pattern) (param_nodes params) e.key
    (subst (Numbered (nodes_of param.pattern)) (ap (λ (x : Entry). x.key) (same_Some (as_entry param) e h))
    (own_number param.pattern))
of_param (param ∷ params) inside rest (suc i) e l h =
    let less : i < length params = omega (arith, l) in
    numbered_right (nodes_of param.pattern) (param_nodes params) e.key (of_param params inside rest i e less h)

as_long : (params : List ParamTree) (inside rest : List Entry) →
    length params ≤ length ((map as_entry params ++ inside) ++ rest)
as_long [] inside rest = let none : 0 ≤ length (inside ++ rest) = omega arith in none
as_long (param ∷ params) inside rest =
    let more : length params ≤ length ((map as_entry params ++ inside) ++ rest) = as_long params inside rest in
    let both : suc (length params) ≤ suc (length ((map as_entry params ++ inside) ++ rest)) = omega (more, arith) in both

three : (a b c : Bool) → (a ≡ true → b ≡ true → ⊥) → ((a && b) && c) ≡ false
three true true c f = absurd (f refl refl)
three true false c f = refl
three false b c f = refl

inside_of : (answer : Entry) (params : List ParamTree) (inside rest : List Entry) (m : ℕ) (e : Entry) → 0 < m →
    m < 1 + length params → slice_get (answer ∷ ((map as_entry params ++ inside) ++ rest)) m ≡ Some e →
    Numbered (param_nodes params) e.key
inside_of answer params inside rest zero e p l h = absurd (let never : ⊥ = omega (arith, p) in never)
inside_of answer params inside rest (suc i) e p l h =
    let less : i < length params = omega (arith, l) in of_param params inside rest i e less h

past_all : (answer : Entry) (params : List ParamTree) (inside rest : List Entry) (m : ℕ) → m < 1 + length params →
    length (answer ∷ ((map as_entry params ++ inside) ++ rest)) ≤ m → ⊥
past_all answer params inside rest m l h =
    let long : length params ≤ length ((map as_entry params ++ inside) ++ rest) = as_long params inside rest in
    let all : suc (length ((map as_entry params ++ inside) ++ rest)) ≤ m = h in
    let never : ⊥ = omega (long, all, l, arith) in never

never_param : (answer : Entry) (params : List ParamTree) (inside rest : List Entry) (ns : List Node) →
    Rises (param_nodes params ++ ns) → (m key : ℕ) → Numbered ns key →
    ((e : Entry) × ((slice_get (answer ∷ ((map as_entry params ++ inside) ++ rest)) m ≡ Some e) × (e.key ≡ key)))
    ⊎ (length (answer ∷ ((map as_entry params ++ inside) ++ rest)) ≤ m) → 0 < m → m < 1 + length params → ⊥
never_param answer params inside rest ns rise m key at (inl (e, (h, same))) p l =
    rises_apart (param_nodes params) ns rise key (subst (Numbered (param_nodes params)) same
    (inside_of answer params inside rest m e p l h)) at
never_param answer params inside rest ns rise m key at (inr past) p l = past_all answer params inside rest m l past

module _ (items : ItemTable) (body : BodyTree) (rise : Rises (param_nodes body.params ++ nodes_of body.block)) where
  pub no_param : (key : ℕ) → Numbered (nodes_of body.block) key →
      is_reference_param items body (local_of items body key) ≡ false
  no_param key at = three (nat_lt 0 (local_of items body key)) (nat_lt (local_of items body key) (1 + length body.params))
      (is_reference (option_and_then (type_at items) (local_ty items body (local_of items body key))))
      (λ p l. never_param _ body.params _ _ (nodes_of body.block) rise (local_of items body key) key at
      (at_local (locals items body) key) (ltb-true 0 (local_of items body key) p)
      (ltb-true (local_of items body key) (1 + length body.params) l))
