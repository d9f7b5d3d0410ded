-- The program of an accepted text is well typed: part by part, as items claim it.
use Rattle.std.proofs.Common.{◌≡◌, ℕ, suc, ◌+◌, Bool, false, ◌&&◌, ◌==◌, not, nat_le, List, [], ◌∷◌, map, length, slice_get, Some, IsTrue, Contains, refl, ap, sym, subst, ◌∙◌, arith}
use Rattle.std.specs.Prelude.{codes, is_some, option_and_then}
use Rattle.std.specs.List.{list_all}
use Rattle.std.specs.Option.{option_map_or}
use Rattle.std.specs.Str.{bytes_eq}
use Rattle.std.proofs.lemmas.Bool.{and_from, and_parts, eq-eqb}
use Rattle.mir_base.specs.declared.place_in_text.Pos.{Pos}
use Rattle.mir_ty.specs.declared.adt.Adt.{Adt}
use Rattle.mir_ty.specs.declared.adt.Variant.{Variant}
use Rattle.mir_ty.specs.declared.def.ClosureDef.{ClosureDef}
use Rattle.mir_ty.specs.declared.def.Sig.{Sig}
use Rattle.mir_ty.specs.declared.def.TraitDef.{TraitDef}
use Rattle.mir_ty.specs.declared.ty.Ty.{Ty}
use Rattle.mir_ty.specs.declared.ty.TyId.{TyId}
use Rattle.mir_ty.specs.ItemTable.{ItemTable, type_at}
use Rattle.mir_ty.specs.Parts.{held_by}
use Rattle.src_tree.specs.Layout.{Parts}
use Rattle.typed_tree.specs.Tree.{ProgramTree}
use Rattle.well_typed.specs.Claim.{Claim, Holds, fact, ◌&◌, each, some, nothing}
use Rattle.well_typed.specs.Items.{are_items, is_finite, is_good_type, is_well_made, stands_alone}
use Rattle.well_typed.specs.Names.{are_distinct}
use Rattle.well_typed.specs.Program.{WellTyped}
use Rattle.well_typed.specs.Types.{closure_in, closure_of, inside_in, is_reference}
use Rattle.typing_rules.specs.Promises.{AreReady}
use Rattle.typing_soundness.specs.Items.{is_head_typed, is_variant_typed, has_variants, may_be_copy, IsAdtTyped, begins_with_self, is_method_typed, IsTraitTyped, IsClosureTyped, is_within_limits, has_drop_head, is_impl}
use Rattle.typing_soundness.specs.Program.{IsAccepted}
use Rattle.typing_soundness.proofs.Items.Accepting.{are_typed, is_typed}
use Rattle.typing_soundness.proofs.Items.Adts.{text_adts}
use Rattle.typing_soundness.proofs.Items.Dropped.{text_drops}
use Rattle.typing_soundness.proofs.Items.Fields.{text_fields}
use Rattle.typing_soundness.proofs.Items.Finite.{text_finite}
use Rattle.typing_soundness.proofs.Items.Heads.{alone_stands, text_types, text_heads, text_closures}
use Rattle.typing_soundness.proofs.Items.Implemented.{text_implemented}
use Rattle.typing_soundness.proofs.Items.Impls.{text_impls}
use Rattle.typing_soundness.proofs.Items.Limits.Program.{text_limits}
use Rattle.typing_soundness.proofs.Items.Main.{text_main}
use Rattle.typing_soundness.proofs.Items.Traits.{text_traits}
use Rattle.typing_soundness.proofs.Items.Words.{text_item_names, text_names_differ}

-- the claim on closures, as items make it
module _ (items : ItemTable) where
  abbrev begins : ℕ → List TyId → Bool
  begins n [] = false
  begins n (ty ∷ tys) =
      option_map_or (λ m. m == n) (closure_of items ty) false && list_all (stands_alone items) tys

  abbrev closure_claim : ℕ → ClosureDef → Claim
  closure_claim n def =
      fact (list_all (stands_alone items) def.captures) & some (slice_get items.bodies def.body) (λ sig. fact (begins n
      sig.params))

  abbrev closure_claims : ℕ → List ClosureDef → Claim
  closure_claims n [] = nothing
  closure_claims n (def ∷ defs) = closure_claim n def & closure_claims (suc n) defs

  begins_so : (n : ℕ) (params : List TyId) (self : TyId) (rest : List TyId) → params ≡ self ∷ rest → closure_of items self ≡
      Some n → IsTrue (list_all (stands_alone items) rest) → IsTrue (begins n params)
  begins_so n params self rest e c alone =
      ap (begins n) e ∙ and_from (option_map_or (λ m. m == n) (closure_of items self) false) _ (ap (λ o. option_map_or (λ m.
      m == n) o false) c ∙ eq-eqb n n refl) alone

  claimed : (n : ℕ) (def : ClosureDef) → IsClosureTyped items n def → Holds (closure_claim n def)
  claimed n def h = (
    h.captures,
    subst (λ o. Holds (some o (λ (sig : Sig). fact (begins n sig.params)))) (sym h.is) (begins_so n h.head.params h.self
        h.rest h.params (ap (option_and_then closure_in) h.ty) h.alone),
  )

  all_claimed : (n : ℕ) (defs : List ClosureDef) → ((k : ℕ) (def : ClosureDef) → slice_get defs k ≡ Some def →
      IsClosureTyped items (n + k) def) → Holds (closure_claims n defs)
  all_claimed n [] h = refl
  all_claimed n (def ∷ defs) h = (
    claimed n def (subst (λ m. IsClosureTyped items m def) (omega arith) (h 0 def refl)),
    all_claimed (suc n) defs (λ k x is. subst (λ m. IsClosureTyped items m x) (omega arith) (h (suc k) x is)),
  )

-- ---- types

module _ (items : ItemTable) (ready : AreReady items) (finite : (id : TyId) (ty : Ty) → type_at items id ≡ Some ty → IsTrue
    (is_finite items id)) where
  all_so : {A : Type 0} (p : A → Bool) (xs : List A) → ((x : A) → Contains xs x → IsTrue (p x)) → IsTrue (list_all p xs)
  all_so p [] h = refl
  all_so p (x ∷ xs) h =
      and_from (p x) _ (h x (0, omega arith, refl)) (all_so p xs (λ y has. h y (suc has.0, omega (arith, has.1), has.2)))

  held_alone : (n : ℕ) (ty : Ty) → slice_get items.types n ≡ Some ty → (part : TyId) → Contains (held_by items ty) part →
      IsTrue (stands_alone items part)
  held_alone n ty at part has = alone_stands items part (ready.held (record { 0 = n }) part ty at has)

  -- what a box or a reference leads to
  is_inside : (n : ℕ) (ty : Ty) (to : TyId) → slice_get items.types n ≡ Some ty → inside_in ty ≡ Some to → IsTrue (is_some
      (type_at items to) && not (is_reference items to))
  is_inside n ty to at is =
      let h = ready.inside (record { 0 = n }) to (ap (option_and_then inside_in) at ∙ is) in
      and_from (is_some (type_at items to)) _ (ap is_some h.0.1) h.1

  well_made : (n : ℕ) (ty : Ty) → slice_get items.types n ≡ Some ty → IsTrue (is_within_limits items ty) → IsTrue
      (is_well_made items ty)
  well_made n (Ty.Tuple parts) at h =
      and_from (list_all (stands_alone items) parts) _ (all_so (stands_alone items) parts (held_alone n (Ty.Tuple parts) at))
      h
  well_made n (Ty.Array element count) at h =
      and_from (stands_alone items element) _ (held_alone n (Ty.Array element count) at element (0, omega arith, refl)) h
  well_made n (Ty.Boxed content) at h = is_inside n (Ty.Boxed content) content at refl
  well_made n (Ty.Shared to) at h = is_inside n (Ty.Shared to) to at refl
  well_made n (Ty.Unique to) at h = is_inside n (Ty.Unique to) to at refl
  well_made n (Ty.Adt k) at h = h
  well_made n (Ty.Dyn k) at h = h
  well_made n (Ty.Closure k) at h = h
  well_made n (Ty.Int kind) at h = refl
  well_made n Ty.Bool at h = refl
  well_made n Ty.Unit at h = refl
  well_made n Ty.Never at h = refl

  good_type : (n : ℕ) (ty : Ty) → slice_get items.types n ≡ Some ty → IsTrue (is_within_limits items ty) → IsTrue
      (is_good_type items ty)
  good_type n ty at h =
      and_from (is_well_made items ty) _ (well_made n ty at h) (all_so (is_finite items) (held_by items ty) (λ part has. let a =
      ready.held (record { 0 = n }) part ty at has in finite part a.0 a.1))

  good_from : (n : ℕ) (tys : List Ty) → ((k : ℕ) (ty : Ty) → slice_get tys k ≡ Some ty → slice_get items.types (n + k) ≡ Some
      ty) → IsTrue (list_all (is_within_limits items) tys) → IsTrue (list_all (is_good_type items) tys)
  good_from n [] at h = refl
  good_from n (ty ∷ tys) at h =
      let k = and_parts (is_within_limits items ty) _ h in
      and_from (is_good_type items ty) _ (good_type n ty (ap (slice_get items.types) (omega arith) ∙ at 0 ty refl) k.0)
      (good_from (suc n) tys (λ j t is. ap (slice_get items.types) (omega arith) ∙ at (suc j) t is) k.1)

-- ---- structs and enums, and traits, as items claim them

module _ (items : ItemTable) where
  abbrev variant_claim : Variant → Claim
  variant_claim v =
      fact (list_all (stands_alone items) v.fields) & fact (are_distinct v.field_names) & fact (length v.field_names == length
      v.fields && nat_le (length v.fields) 32)

  abbrev adt_claim : ℕ → Adt → Claim
  adt_claim n adt =
      fact (has_variants adt) & each variant_claim adt.variants & fact (may_be_copy items adt) & has_drop_head items adt.name n
      adt.drop_body

  abbrev adt_claims : ℕ → List Adt → Claim
  adt_claims n [] = nothing
  adt_claims n (adt ∷ adts) = adt_claim n adt & adt_claims (suc n) adts

  abbrev HasFields : Adt → Type 0
  HasFields adt = (m : ℕ) (v : Variant) → slice_get adt.variants m ≡ Some v → IsTrue (are_distinct v.field_names)

  variants_claimed : (vs : List Variant) → ((k : ℕ) (v : Variant) → slice_get vs k ≡ Some v → IsTrue (is_variant_typed items v))
      → ((k : ℕ) (v : Variant) → slice_get vs k ≡ Some v → IsTrue (are_distinct v.field_names)) → Holds (each variant_claim vs)
  variants_claimed [] h names = refl
  variants_claimed (v ∷ vs) h names =
      let k = and_parts (list_all (stands_alone items) v.fields) _ (h 0 v refl) in
      ((k.0, (names 0 v refl, k.1)), variants_claimed vs (λ j x is. h (suc j) x is) (λ j x is. names (suc j) x is))

  adts_claimed : (n : ℕ) (adts : List Adt) → ((k : ℕ) (adt : Adt) → slice_get adts k ≡ Some adt → IsAdtTyped items adt) → ((k :
      ℕ) (adt : Adt) → slice_get adts k ≡ Some adt → HasFields adt) → ((k : ℕ) (adt : Adt) → slice_get adts k ≡ Some adt → Holds
      (has_drop_head items adt.name (n + k) adt.drop_body)) → Holds (adt_claims n adts)
  adts_claimed n [] h names drops = refl
  adts_claimed n (adt ∷ adts) h names drops =
      let a = h 0 adt refl in (
        (
          a.variants,
          (
            variants_claimed adt.variants a.fields (names 0 adt refl),
            (
              a.copy,
              subst (λ m. Holds (has_drop_head
                  items adt.name m adt.drop_body)) (omega arith) (drops 0 adt refl),
            ),
          ),
        ),
        adts_claimed (suc n) adts (λ k x is. h (suc k) x is) (λ k x is. names (suc k) x is) (λ k x is. subst (λ m. Holds
            (has_drop_head items x.name m x.drop_body)) (omega arith) (drops (suc k) x is)),
      )

  abbrev method_claim : ℕ → Sig → Claim
  method_claim n sig =
      fact (is_head_typed items sig) & fact (begins_with_self items n sig.params) & fact (not (bytes_eq sig.name (codes
      "drop")))

  abbrev trait_claim : ℕ → TraitDef → Claim
  trait_claim n def = each (method_claim n) def.methods & fact (are_distinct (map (λ m. m.name) def.methods))

  abbrev trait_claims : ℕ → List TraitDef → Claim
  trait_claims n [] = nothing
  trait_claims n (def ∷ defs) = trait_claim n def & trait_claims (suc n) defs

  methods_claimed : (n : ℕ) (sigs : List Sig) → ((k : ℕ) (sig : Sig) → slice_get sigs k ≡ Some sig → IsTrue (is_method_typed
      items n sig)) → Holds (each (method_claim n) sigs)
  methods_claimed n [] h = refl
  methods_claimed n (sig ∷ sigs) h =
      let k = and_parts (is_head_typed items sig) _ (h 0 sig refl) in
      let l = and_parts (begins_with_self items n sig.params) _ k.1 in
      ((k.0, (l.0, l.1)), methods_claimed n sigs (λ j x is. h (suc j) x is))

  traits_claimed : (n : ℕ) (defs : List TraitDef) → ((k : ℕ) (def : TraitDef) → slice_get defs k ≡ Some def → IsTraitTyped
      items (n + k) def) → Holds (trait_claims n defs)
  traits_claimed n [] h = refl
  traits_claimed n (def ∷ defs) h =
      let t : IsTraitTyped items n def = subst (λ m. IsTraitTyped items m def) (omega arith) (h 0 def refl) in (
        (methods_claimed n def.methods t.methods, t.names),
        traits_claimed (suc n) defs (λ k x is. subst (λ m. IsTraitTyped items m x) (omega arith) (h (suc k) x is)),
      )

module _ (parts : Parts Pos) (items : ItemTable) (p : ProgramTree) (h : IsAccepted parts items p) where
  closures : Holds (closure_claims p.items 0 p.items.closures)
  closures =
      all_claimed p.items 0 p.items.closures (λ k def is. subst (λ m. IsClosureTyped p.items m def) (omega arith)
      (text_closures parts items p h k def is))

  types : IsTrue (list_all (is_good_type p.items) p.items.types)
  types =
      good_from p.items (are_typed parts items p h).0 (text_finite parts items p h) 0 p.items.types (λ k ty is. ap (slice_get
      p.items.types) (omega arith) ∙ is) (text_limits parts items p h)

  traits : Holds (trait_claims p.items 0 p.items.traits)
  traits =
      traits_claimed p.items 0 p.items.traits (λ k def is. subst (λ m. IsTraitTyped p.items m def) (omega arith) (text_traits
      parts items p h k def is))

  adts : Holds (adt_claims p.items 0 p.items.adts)
  adts =
      adts_claimed p.items 0 p.items.adts (text_adts parts items p h) (text_fields parts items p h) (λ k adt is. subst (λ m. Holds
      (has_drop_head p.items adt.name m adt.drop_body)) (omega arith) (text_drops parts items p h k adt is))

  all_items : Holds (are_items p.items)
  all_items =
      let t = text_types parts items p h in (
        (t.0, (types, (t.1, t.2))),
        (
          adts,
          (
            traits,
            (
              text_implemented parts items p h,
              (
                text_impls parts items p h,
                (
                  closures,
                  (
                    text_heads parts items p h,
                    (text_names_differ parts items p h, (text_item_names parts items p h, text_main parts items p h)),
                  ),
                ),
              ),
            ),
          ),
        ),
      )

  pub text_well_typed : WellTyped p
  text_well_typed = is_typed parts items p h all_items
