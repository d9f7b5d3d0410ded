-- The heads of bodies of a well typed program: each head has a body, whose parameters and result have the types that
-- the head gives.
use Rattle.std.proofs.Common.{◌≡◌, ℕ, zero, suc, ◌+◌, ◌<◌, ◌&&◌, List, [], ◌∷◌, ◌++◌, map, length, Option, Some, None, refl, ap, sym, ◌∙◌, subst, arith}
use Rattle.std.specs.Prelude.{slice_get, nat_lt, option_and_then}
use Rattle.std.specs.Cmp.{first_so, second_so}
use Rattle.std.specs.Cmp.Derive.{both_true}
use Rattle.std.specs.Option.{option_map_or}
use Rattle.std.proofs.Math.Path.{fun_ext}
use Rattle.std.proofs.lemmas.Bool.{false≢true, lt-ltb, ltb-true}
use Rattle.std.proofs.lemmas.Option.{none-some, slice_get_within}
use Rattle.mir_ty.specs.declared.def.Sig.{Sig}
use Rattle.mir_ty.specs.declared.ty.TyId.{TyId}
use Rattle.mir_ty.specs.ItemTable.{ItemTable, type_at}
use Rattle.store_model.specs.Concrete.Location.{Setting}
use Rattle.store_model.specs.Places.Place.{is_reference}
use Rattle.src_meaning.specs.Locals.OfBody.{local_ty, local_tys, param_key}
use Rattle.src_meaning.specs.Programs.{setting_of}
use Rattle.src_meaning.specs.Scopes.{Entry}
use Rattle.typed_tree.specs.Tree.{ParamTree, BodyTree, ProgramTree}
use Rattle.well_typed.specs.Claim.{Holds}
use Rattle.well_typed.specs.Program.{WellTyped, are_params, are_bodies, is_body}
use Rattle.soundness_values.proofs.CheckedBodies.{is_reference_param}
use Rattle.soundness_values.proofs.ClaimParts.{some_is, found_below, same_ty}
use Rattle.soundness_values.proofs.Entering.{HeadOf}

mapped : {A B : Type 0} (f : A → B) (list : List A) (n : ℕ) (a : A) → slice_get list n ≡ Some a →
    slice_get (map f list) n ≡ Some (f a)
mapped f [] n a e = absurd (none-some a e)
mapped f (x ∷ list) zero a e = let same : x ≡ a = cc in ap (λ y. Some (f y)) same
mapped f (x ∷ list) (suc n) a e = mapped f list n a e

-- the type of an entry, with others behind it
entry_at : {A : Type 0} (f : A → Entry) (list : List A) (inside rest : List Entry) (i : ℕ) (a : A) →
    slice_get list i ≡ Some a → slice_get (map (λ e. e.ty) ((map f list ++ inside) ++ rest)) i ≡ Some (f a).ty
entry_at f [] inside rest i a e = absurd (none-some a e)
entry_at f (x ∷ list) inside rest zero a e = ap (λ y. Some (f y).ty) (some_is e)
entry_at f (x ∷ list) inside rest (suc i) a e = entry_at f list inside rest i a e

module _ (p : ProgramTree) where
  abbrev items : ItemTable
  items = p.items

  abbrev setting : Setting
  setting = setting_of p

  -- how many locals a body has
  pub size : ℕ → ℕ
  size n = option_map_or (λ (tys : List TyId). length tys) (slice_get (map (local_tys items) p.bodies) n) 0

  pub sized : (body key : ℕ) (id : TyId) → setting.local_ty body key ≡ Some id → key < size body
  unfolding size
  sized body key id e = by (slice_get (map (local_tys items) p.bodies) body) e
    where
      by : (o : Option (List TyId)) → option_and_then (λ (tys : List TyId). slice_get tys key) o ≡ Some id →
          key < option_map_or (λ (tys : List TyId). length tys) o 0
      by None k = absurd (none-some id k)
      by (Some tys) k = slice_get_within tys key id k

  pub typed_below : (body key : ℕ) → key < size body → (id : TyId) × (setting.local_ty body key ≡ Some id)
  unfolding size
  typed_below body key l = by (slice_get (map (local_tys items) p.bodies) body) l
    where
      by : (o : Option (List TyId)) → key < option_map_or (λ (tys : List TyId). length tys) o 0 →
          (id : TyId) × (option_and_then (λ (tys : List TyId). slice_get tys key) o ≡ Some id)
      by None k = absurd (let never : ⊥ = omega arith in never)
      by (Some tys) k = found_below tys key k

  pub types_are : (n : ℕ) (b : BodyTree) → slice_get p.bodies n ≡ Some b →
      (λ (key : ℕ). setting.local_ty n key) ≡ local_ty items b
  types_are n b e = fun_ext (λ key. ap (option_and_then (λ (tys : List TyId). slice_get tys key))
      (mapped (local_tys items) p.bodies n b e))

  -- the heads of bodies
  pub record Heads : Type 0 where
    pub there : (n : ℕ) (sig : Sig) → slice_get items.bodies n ≡ Some sig →
        (b : BodyTree) × (slice_get p.bodies n ≡ Some b)
    pub head : (n : ℕ) (sig : Sig) (b : BodyTree) → slice_get items.bodies n ≡ Some sig →
        slice_get p.bodies n ≡ Some b →
        HeadOf setting n (is_reference_param items b) sig.params sig.result × (length b.params ≡ length sig.params)

  -- ---- a body and its head

  bodies_at : (m : ℕ) (sigs : List Sig) (bodies : List BodyTree) → Holds (are_bodies items m sigs bodies) → (i : ℕ)
      (sig : Sig) → slice_get sigs i ≡ Some sig →
      (b : BodyTree) × ((slice_get bodies i ≡ Some b) × Holds (is_body items (m + i) sig b))
  bodies_at m [] [] h i sig e = absurd (none-some sig e)
  bodies_at m [] (b ∷ bodies) h i sig e = absurd (none-some sig e)
  bodies_at m (s ∷ sigs) [] h i sig e = absurd (false≢true h)
  bodies_at m (s ∷ sigs) (b ∷ bodies) h zero sig e =
      let here : m ≡ m + 0 = omega arith in (
        b,
        (
          refl,
          subst (λ k. Holds (is_body items k sig b)) here
              (subst (λ (x : Sig). Holds (is_body items m x b)) (some_is e) h.0),
        ),
      )
  bodies_at m (s ∷ sigs) (b ∷ bodies) h (suc i) sig e =
      let it = bodies_at (suc m) sigs bodies h.1 i sig e in
      let next : suc m + i ≡ m + suc i = omega arith in
      (it.0, (it.1.0, subst (λ k. Holds (is_body items k sig it.0)) next it.1.1))

  -- a parameter has the type that the head gives
  param_at : (tys : List TyId) (params : List ParamTree) → Holds (are_params items tys params) → (i : ℕ) (id : TyId) →
      slice_get tys i ≡ Some id → (q : ParamTree) × ((slice_get params i ≡ Some q) × (q.ty ≡ id))
  param_at [] [] h i id e = absurd (none-some id e)
  param_at [] (q ∷ params) h i id e = absurd (none-some id e)
  param_at (ty ∷ tys) [] h i id e = absurd (false≢true h)
  param_at (ty ∷ tys) (q ∷ params) h zero id e = (q, (refl, same_ty q.ty ty h.0.0 ∙ some_is e))
  param_at (ty ∷ tys) (q ∷ params) h (suc i) id e = param_at tys params h.1 i id e

  type_of_param : (tys : List TyId) (params : List ParamTree) → Holds (are_params items tys params) → (i : ℕ)
      (q : ParamTree) → slice_get params i ≡ Some q → (id : TyId) × ((slice_get tys i ≡ Some id) × (q.ty ≡ id))
  type_of_param [] [] h i q e = absurd (none-some q e)
  type_of_param [] (x ∷ params) h i q e = absurd (false≢true h)
  type_of_param (ty ∷ tys) [] h i q e = absurd (none-some q e)
  type_of_param (ty ∷ tys) (x ∷ params) h zero q e =
      (ty, (refl, ap (λ (y : ParamTree). y.ty) (sym (some_is e)) ∙ same_ty x.ty ty h.0.0))
  type_of_param (ty ∷ tys) (x ∷ params) h (suc i) q e = type_of_param tys params h.1 i q e

  as_many : (tys : List TyId) (params : List ParamTree) → Holds (are_params items tys params) →
      length params ≡ length tys
  as_many [] [] h = refl
  as_many [] (x ∷ params) h = absurd (false≢true h)
  as_many (ty ∷ tys) [] h = absurd (false≢true h)
  as_many (ty ∷ tys) (x ∷ params) h = ap suc (as_many tys params h.1)

  -- the parameters are the locals from 1 on
  local_at : (b : BodyTree) (i : ℕ) (q : ParamTree) → slice_get b.params i ≡ Some q →
      local_ty items b (1 + i) ≡ Some q.ty
  local_at b i q e =
      let next : suc i ≡ 1 + i = omega arith in
      subst (λ k. local_ty items b k ≡ Some q.ty) next
      (entry_at (λ (x : ParamTree). record { key = param_key x; ty = x.ty }) b.params _ _ i q e)

  module _ (typed : WellTyped p) where
    body_at : (n : ℕ) (sig : Sig) → slice_get items.bodies n ≡ Some sig →
        (b : BodyTree) × ((slice_get p.bodies n ≡ Some b) × Holds (is_body items (0 + n) sig b))
    body_at n sig e = bodies_at 0 items.bodies p.bodies typed.1 n sig e

    claim_of : (n : ℕ) (sig : Sig) (b : BodyTree) → slice_get items.bodies n ≡ Some sig → slice_get p.bodies n ≡ Some b →
        Holds (is_body items (0 + n) sig b)
    claim_of n sig b e eb = let it = body_at n sig e in
        subst (λ (x : BodyTree). Holds (is_body items (0 + n) sig x)) (some_is (sym it.1.0 ∙ eb)) it.1.1

    above_zero : (local : ℕ) → 0 < local → (i : ℕ) × (local ≡ 1 + i)
    above_zero zero l = absurd (let never : ⊥ = omega arith in never)
    above_zero (suc i) l = (i, (let same : suc i ≡ 1 + i = omega arith in same))

    head_of : (n : ℕ) (sig : Sig) (b : BodyTree) → slice_get items.bodies n ≡ Some sig → slice_get p.bodies n ≡ Some b →
        HeadOf setting n (is_reference_param items b) sig.params sig.result × (length b.params ≡ length sig.params)
    head_of n sig b e eb = (
      record {
        typed = λ i id k. let q = param_at sig.params b.params claim.1.1.0 i id k in
            locals_are (1 + i) ∙ local_at b i q.0 q.1.0 ∙ ap (λ x. Some x) q.1.1;
        answer = locals_are 0 ∙ ap (λ x. Some x) (same_ty b.answer sig.result claim.1.0);
        references = λ i id k r.
            let q = param_at sig.params b.params claim.1.1.0 i id k in
            let within : i < length b.params = slice_get_within b.params i q.0 q.1.0 in
            both_true
            (both_true (lt-ltb 0 (1 + i) (let above : 0 < 1 + i = omega arith in above))
            (lt-ltb (1 + i) (1 + length b.params) (let less : 1 + i < 1 + length b.params = omega arith in less)))
            (ap (λ o. is_reference (option_and_then (type_at items) o)) (local_at b i q.0 q.1.0 ∙ ap (λ x. Some x) q.1.1)
            ∙ r);
        params_alone = λ local h.
            let both = first_so (nat_lt 0 local && nat_lt local (1 + length b.params)) _ h in
            let above : 0 < local = ltb-true 0 local (first_so (nat_lt 0 local) _ both) in
            let below : local < 1 + length b.params = ltb-true local (1 + length b.params)
            (second_so (nat_lt 0 local) _ both) in
            let i = above_zero local above in
            let same : local ≡ 1 + i.0 = i.1 in
            let less : i.0 < length b.params = omega arith in
            let q = found_below b.params i.0 less in
            let id = type_of_param sig.params b.params claim.1.1.0 i.0 q.0 q.1 in (
              i.0,
              (
                id.0,
                (
                  same,
                  (
                    id.1.0,
                    sym (ap (λ o. is_reference (option_and_then (type_at items) o))
                        (ap (local_ty items b) same ∙ local_at b i.0 q.0 q.1 ∙ ap (λ x. Some x) id.1.1))
                        ∙ second_so (nat_lt 0 local && nat_lt local (1 + length b.params)) _ h,
                  ),
                ),
              ),
            );
      },
      as_many sig.params b.params claim.1.1.0,
    )
      where
        claim : Holds (is_body items (0 + n) sig b)
        claim = claim_of n sig b e eb

        locals_are : (key : ℕ) → setting.local_ty n key ≡ local_ty items b key
        locals_are key = ap (λ (f : ℕ → Option TyId). f key) (types_are n b eb)

    pub heads_of : Heads
    heads_of = record {
      there = λ n sig e. let it = body_at n sig e in (it.0, it.1.0);
      head = head_of;
    }
