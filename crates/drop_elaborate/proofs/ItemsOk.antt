-- In a graph without a fault the bodies that are called are as they are called: the result of a body is its first
-- local, the body that an impl has for a method implements it, and that of a `Drop` impl takes one reference.
use Rattle.std.proofs.Common.{◌≡◌, inl, inr, ℕ, zero, suc, ◌+◌, ◌==◌, ◌&&◌, not, nat_lt, Bool, true, false, List, [], ◌∷◌, ◌++◌, take, length, Option, Some, None, slice_get, refl, ap, sym, ◌∙◌, subst, arith}
use Rattle.std.specs.Prelude.{option_and_then}
use Rattle.std.specs.List.{list_all}
use Rattle.std.specs.Option.{option_map_or}
use Rattle.std.specs.Cmp.{first_so, second_so}
use Rattle.std.specs.Cmp.Lexicographic.{pointwise}
use Rattle.std.proofs.lemmas.Bool.{false≢true, ltb-true}
use Rattle.std.proofs.lemmas.Bool.Decides.{Decides-eqb}
use Rattle.std.proofs.lemmas.Option.{none-some, slice_get_cases}
use Rattle.mir_ty.specs.declared.adt.Adt.{Adt}
use Rattle.mir_ty.specs.declared.def.ImplDef.{ImplDef}
use Rattle.mir_ty.specs.declared.def.Sig.{Sig}
use Rattle.mir_ty.specs.declared.def.TraitDef.{TraitDef}
use Rattle.mir_ty.specs.declared.ty.Ty.{Ty}
use Rattle.mir_ty.specs.declared.ty.TyId.{TyId}
use Rattle.mir_ty.specs.ItemTable.{ItemTable, type_at}
use Rattle.cfg_graph.specs.declared.graph.Body.{Body}
use Rattle.cfg_graph.specs.declared.graph.Graph.{Graph}
use Rattle.cfg_graph.specs.WellFormed.Faults.{nowhere, at_line, of_each, adts_faults, traits_faults, impls_faults, closures_faults, item_faults, faults_of_body, end_faults, IsWellFormed}
use Rattle.cfg_graph.specs.WellFormed.ItemFaults.{place_dyn, field_types, is_unique_adt, are_dropped, is_drop_sig, has_drop_sig, adt_has_types, adt_tests, adt_faults, are_selves, params_implement, sig_implements, body_implements, methods_of, impl_exists, impl_tests, impl_faults}
use Rattle.cfg_graph.specs.WellFormed.LineFaults.{is_sig_of, has_sig}
use Rattle.cfg_graph.specs.WellFormed.TypeFaults.{is_drop_body, adt_holds_itself}
use Rattle.cfg_graph.specs.WellFormed.Typing.{method_at}
use Rattle.cfg_graph.proofs.NoFaults.{first_empty, second_empty, map_empty, of_each-empty, broken-holds}
use Rattle.store_model.specs.Concrete.Drops.{with_drop_body}
use Rattle.store_model.specs.Concrete.Effects.{row_body}
use Rattle.store_model.specs.Places.Place.{is_reference}
use Rattle.store_model.specs.Places.TypeForms.{same_id, same_ids, is_dyn_of, is_unit}
use Rattle.drop_values.specs.Like.{raw_setting}
use Rattle.drop_values.specs.Typed.{has_impl}
use Rattle.drop_elaborate.proofs.BodyFacts.{has-sig}
use Rattle.drop_elaborate.proofs.CalledBodies.{Implements, CalleesOk}
use Rattle.drop_elaborate.proofs.Entered.{DropsTakeOne, same-list}
use Rattle.drop_elaborate.proofs.OperandTypes.{same-ty, some-so}
use Rattle.drop_elaborate.proofs.StandAlone.{all-at}

-- what is so of two lists, one by one
pointwise-at : {A B : Type 0} (p : A → B → Bool) (xs : List A) (ys : List B) (k : ℕ) (x : A) (y : B) →
    pointwise p xs ys ≡ true → slice_get xs k ≡ Some x → slice_get ys k ≡ Some y → p x y ≡ true
pointwise-at p [] ys k x y h e f = absurd (none-some x e)
pointwise-at p (a ∷ xs) [] k x y h e f = absurd (none-some y f)
pointwise-at p (a ∷ xs) (b ∷ ys) zero x y h e f =
    let a_is : a ≡ x = (let z : Some a ≡ Some x = e in cc) in
    let b_is : b ≡ y = (let z : Some b ≡ Some y = f in cc) in
    ap (λ a. p a y) (sym a_is) ∙ ap (p a) (sym b_is) ∙ first_so (p a b) (pointwise p xs ys) h
pointwise-at p (a ∷ xs) (b ∷ ys) (suc k) x y h e f =
    pointwise-at p xs ys k x y (second_so (p a b) (pointwise p xs ys) h) e f

-- a `dyn` type is of one trait
one-trait : (n m : ℕ) (o : Option Ty) → is_dyn_of n o ≡ true → is_dyn_of m o ≡ true → n ≡ m
one-trait n m None h g = absurd (false≢true h)
one-trait n m (Some (Ty.Dyn k)) h g = (Decides-eqb n k).0 h ∙ sym ((Decides-eqb m k).0 g)
one-trait n m (Some other) h g = absurd (false≢true h)

module _ (graph : Graph) (well : IsWellFormed graph) where
  abbrev items : ItemTable
  items = graph.items

  abbrev bodies : ℕ
  bodies = length graph.bodies

  abbrev local_ty : (body local : ℕ) → Option TyId
  local_ty = λ n local. option_and_then (λ (body : Body). slice_get body.locals local) (slice_get graph.bodies n)

  in-items : item_faults graph ≡ []
  in-items = first_empty (item_faults graph) (of_each (faults_of_body graph) 0 graph.bodies ++ end_faults graph) well

  -- ---- bodies

  body-there : (n : ℕ) → nat_lt n bodies ≡ true → (body : Body) × (slice_get graph.bodies n ≡ Some body)
  body-there n h = elim ((slice_get_cases graph.bodies n).1) [
    | inl x ↦ (x.0, x.2)
    | inr x ↦ (let l = ltb-true n bodies h in let m = x.0 in absurd (let never : ⊥ = omega (arith, l, m) in never))
  ]

  first-local : (body : Body) (sig : Sig) → is_sig_of items bodies body sig ≡ true →
      slice_get body.locals 0 ≡ Some sig.result
  first-local body sig h =
      by body.locals (second_so (length sig.params == body.params)
      (same_ids (take (suc body.params) body.locals) (sig.result ∷ sig.params)) h)
    where
      by : (locals : List TyId) → same_ids (take (suc body.params) locals) (sig.result ∷ sig.params) ≡ true →
          slice_get locals 0 ≡ Some sig.result
      by [] e = absurd (false≢true e)
      by (id ∷ locals) e =
          ap Some (same-ty id sig.result (first_so (same_id id sig.result)
          (same_ids (take body.params locals) sig.params) e))

  results : (callee : ℕ) (sig : Sig) → slice_get items.bodies callee ≡ Some sig → nat_lt callee bodies ≡ true →
      local_ty callee 0 ≡ Some sig.result
  results callee sig e l =
      let b = body-there callee l in
      let h : has_sig items bodies b.0 (slice_get items.bodies callee) ≡ true =
      subst (λ n. has_sig items bodies b.0 (slice_get items.bodies n) ≡ true) (let z : 0 + callee ≡ callee = omega
      arith in z)
      (has-sig graph well callee b.0 b.1) in
      ap (option_and_then (λ (body : Body). slice_get body.locals 0)) b.1
      ∙ first-local b.0 sig (ap (λ o. option_map_or (is_sig_of items bodies b.0) o false) (sym e) ∙ h)

  -- ---- impls

  impl-fine : (k : ℕ) (impl : ImplDef) → slice_get items.impls k ≡ Some impl →
      impl_faults items bodies k impl ≡ []
  impl-fine k impl e =
      let rest = second_empty (traits_faults graph) (impls_faults graph ++ closures_faults graph)
      (second_empty (adts_faults graph) (traits_faults graph ++ (impls_faults graph ++ closures_faults graph))
      in-items) in
      let impls = first_empty (impls_faults graph) (closures_faults graph) rest in
      let from = length items.adts + length items.traits in
      let one = of_each-empty (λ n item. at_line nowhere nowhere (from + n) (impl_faults items bodies n item)) 0
      items.impls impls k impl e in
      subst (λ n. impl_faults items bodies n impl ≡ []) (let z : 0 + k ≡ k = omega arith in z)
      (map_empty (λ (j : ℕ). record { number = j; body = nowhere; block = nowhere; line = from + (0 + k) })
      (impl_faults items bodies (0 + k) impl) one)

  selves-refer : (adt : ℕ) (o p : Option Ty) → are_selves items bodies adt o p ≡ true → is_reference p ≡ true
  selves-refer adt None p h = absurd (false≢true h)
  selves-refer adt (Some (Ty.Shared t)) None h = absurd (false≢true h)
  selves-refer adt (Some (Ty.Shared t)) (Some (Ty.Shared u)) h = refl
  selves-refer adt (Some (Ty.Unique t)) None h = absurd (false≢true h)
  selves-refer adt (Some (Ty.Unique t)) (Some (Ty.Unique u)) h = refl
  selves-refer adt (Some (Ty.Shared t)) (Some other) h = absurd (false≢true h)
  selves-refer adt (Some (Ty.Unique t)) (Some other) h = absurd (false≢true h)
  selves-refer adt (Some other) p h = absurd (false≢true h)

  implements : (adt : ℕ) (m sig : Sig) → sig_implements items bodies adt m sig ≡ true → Implements items m sig
  implements adt m sig h =
      by m.params refl sig.params refl (first_so (params_implement items bodies adt m.params sig.params)
      (same_id m.result sig.result) h)
    where
      by : (xs : List TyId) → m.params ≡ xs → (ys : List TyId) → sig.params ≡ ys →
          params_implement items bodies adt xs ys ≡ true → Implements items m sig
      by [] ex ys ey p = absurd (false≢true p)
      by (x ∷ xs) ex [] ey p = absurd (false≢true p)
      by (x ∷ xs) ex (y ∷ ys) ey p = record {
        object = x;
        own = y;
        params = xs;
        method_params = ex;
        sig_params = ey ∙ ap (λ l. y ∷ l) (sym (same-list items local_ty xs ys (second_so
            (are_selves items bodies adt (type_at items x) (type_at items y)) (same_ids xs ys) p)));
        reference = selves-refer adt (type_at items x) (type_at items y) (first_so
            (are_selves items bodies adt (type_at items x) (type_at items y)) (same_ids xs ys) p);
        result = same-ty m.result sig.result (second_so (params_implement items bodies adt m.params sig.params)
            (same_id m.result sig.result) h);
      }

  rows : (trait_no method : ℕ) (m : Sig) → method_at items trait_no method ≡ Some m → (id : TyId)
      (impl_no callee : ℕ) → is_dyn_of trait_no (type_at items id) ≡ true →
      has_impl items (type_at items id) (Some impl_no) ≡ true →
      row_body (raw_setting items local_ty) items method impl_no ≡ Some callee →
      (sig : Sig) × (slice_get items.bodies callee ≡ Some sig) × (nat_lt callee bodies ≡ true) × Implements items m sig
  rows trait_no method m is id impl_no callee d has r =
      by (slice_get items.impls impl_no) refl has r
    where
      in-methods : (o : Option TraitDef) → option_and_then (λ (def : TraitDef). slice_get def.methods method) o ≡ Some
          m →
          slice_get (option_map_or (λ (def : TraitDef). def.methods) o []) method ≡ Some m
      in-methods None e = absurd (none-some m e)
      in-methods (Some def) e = e

      by : (o : Option ImplDef) → slice_get items.impls impl_no ≡ o →
          option_map_or (λ (impl : ImplDef). is_dyn_of impl.trait_no (type_at items id)) o false ≡ true →
          option_and_then (λ (impl : ImplDef). slice_get impl.bodies method) o ≡ Some callee →
          (sig : Sig) × (slice_get items.bodies callee ≡ Some sig) × (nat_lt callee bodies ≡ true)
          × Implements items m sig
      by None e has r = absurd (none-some callee r)
      by (Some impl) e has r =
          let none = impl-fine impl_no impl e in
          let trait_is : impl.trait_no ≡ trait_no = one-trait impl.trait_no trait_no (type_at items id) has d in
          let all = broken-holds (impl_tests items bodies impl_no impl) none 1
          (3, pointwise (body_implements items bodies impl.adt) (methods_of items bodies impl.trait_no) impl.bodies)
          refl in
          let there = broken-holds (impl_tests items bodies impl_no impl) none 0 (1, impl_exists items bodies impl)
          refl in
          let one = pointwise-at (body_implements items bodies impl.adt) (methods_of items bodies impl.trait_no)
          impl.bodies
          method m callee all
          (ap (λ n. slice_get (methods_of items bodies n) method) trait_is
          ∙ in-methods (slice_get items.traits trait_no) is) r in
          let s = some-so (sig_implements items bodies impl.adt m) (slice_get items.bodies callee)
          (first_so (option_map_or (sig_implements items bodies impl.adt m) (slice_get items.bodies callee) false)
          (not (is_drop_body items callee)) one) in (
            s.0,
            s.1,
            all-at (λ body. nat_lt body bodies) impl.bodies method callee
                (second_so (nat_lt impl.trait_no (length items.traits) && nat_lt impl.adt (length items.adts))
                (list_all (λ body. nat_lt body bodies) impl.bodies) there) r,
            implements impl.adt m s.0 s.2,
          )

  pub callees-ok : CalleesOk items local_ty bodies
  callees-ok = record { results = results; rows = rows }

  -- ---- `Drop` impls

  adt-fine : (k : ℕ) (adt : Adt) → slice_get items.adts k ≡ Some adt → adt_faults items bodies k adt ≡ []
  adt-fine k adt e =
      let adts = first_empty (adts_faults graph) (traits_faults graph ++ (impls_faults graph ++ closures_faults graph))
      in-items in
      let one = of_each-empty (λ n item. at_line nowhere nowhere (0 + n) (adt_faults items bodies n item)) 0
      items.adts adts
      k adt e in
      subst (λ n. adt_faults items bodies n adt ≡ []) (let z : 0 + k ≡ k = omega arith in z)
      (map_empty (λ (j : ℕ). record { number = j; body = nowhere; block = nowhere; line = 0 + (0 + k) })
      (adt_faults items bodies (0 + k) adt) one)

  unique-refers : (n : ℕ) (o : Option Ty) → is_unique_adt items bodies n o ≡ true → is_reference o ≡ true
  unique-refers n None h = absurd (false≢true h)
  unique-refers n (Some (Ty.Unique t)) h = refl
  unique-refers n (Some other) h = absurd (false≢true h)

  one-param : (n : ℕ) (params : List TyId) → are_dropped items bodies n params ≡ true →
      (only : TyId) × (params ≡ only ∷ []) × (is_reference (type_at items only) ≡ true)
  one-param n [] h = absurd (false≢true h)
  one-param n (only ∷ []) h = (only, refl, unique-refers n (type_at items only) h)
  one-param n (first ∷ second ∷ rest) h = absurd (false≢true h)

  pub drops-take-one : DropsTakeOne items local_ty
  drops-take-one (Some (Ty.Adt n)) of e = by (slice_get items.adts n) refl e
    where
      Answer : Type 0
      Answer = (sig : Sig) × (slice_get items.bodies of.1 ≡ Some sig)
          × ((only : TyId) × (sig.params ≡ only ∷ []) × (is_reference (type_at items only) ≡ true))

      of-body : (adt : Adt) → slice_get items.adts n ≡ Some adt → (d : Option ℕ) → adt.drop_body ≡ d →
          with_drop_body n d ≡ Some of → Answer
      of-body adt a None d e = absurd (none-some of e)
      of-body adt a (Some body) d e =
          let none = adt-fine n adt a in
          let t = broken-holds (adt_tests items bodies n adt) none 1
          (3, adt_has_types items bodies n adt && not (adt_holds_itself items n)) refl in
          let h : has_drop_sig items bodies n body ≡ true =
          ap (λ o. option_map_or (has_drop_sig items bodies n) o true) (sym d)
          ∙ second_so (place_dyn items bodies (field_types adt)) (option_map_or (has_drop_sig items bodies n)
          adt.drop_body
          true) (first_so (adt_has_types items bodies n adt) (not (adt_holds_itself items n)) t) in
          let sig = some-so (is_drop_sig items bodies n) (slice_get items.bodies body) h in
          let is : (n, body) ≡ of = (let x : Some (n, body) ≡ Some of = e in let y : (n, body) ≡ of = cc in y) in (
            sig.0,
            ap (λ (x : ℕ × ℕ). slice_get items.bodies x.1) (sym is) ∙ sig.1,
            one-param n sig.0.params (first_so (are_dropped items bodies n sig.0.params)
                (is_unit (type_at items sig.0.result)) sig.2),
          )

      by : (o : Option Adt) → slice_get items.adts n ≡ o →
          with_drop_body n (option_map_or (λ (adt : Adt). adt.drop_body) o None) ≡ Some of → Answer
      by None a e = absurd (none-some of e)
      by (Some adt) a e = of-body adt a adt.drop_body refl e
  drops-take-one None of e = absurd (none-some of e)
  drops-take-one (Some other) of e = absurd (none-some of e)
