-- No reference type stands in another type of a well typed program, in a field, a capture or a result: as typing asks.
use Rattle.std.proofs.Common.{◌≡◌, ℕ, zero, suc, ◌==◌, ◌&&◌, ◌||◌, not, nat_lt, Bool, true, false, List, [], ◌∷◌, length, Option, Some, None, slice_get, cond, if◌then◌else◌, refl, sym, ap, subst, ◌∙◌, arith}
use Rattle.std.proofs.lemmas.Option.{none-some, same_Some, slice_get_within}
use Rattle.std.proofs.lemmas.List.Folds.{find_at}
use Rattle.std.specs.Prelude.{is_some, option_and_then, replicate}
use Rattle.std.specs.List.{find, list_all, list_any, position_or_len}
use Rattle.std.specs.Option.{option_map_or}
use Rattle.cfg_graph.specs.Ready.{holds_no_reference}
use Rattle.mir_ty.specs.declared.adt.Adt.{Adt}
use Rattle.mir_ty.specs.declared.adt.Variant.{Variant}
use Rattle.mir_ty.specs.declared.def.ClosureDef.{ClosureDef}
use Rattle.mir_ty.specs.declared.def.Sig.{Sig}
use Rattle.mir_ty.specs.declared.def.TraitDef.{TraitDef}
use Rattle.mir_ty.specs.declared.ty.Ty.{Ty}
use Rattle.mir_ty.specs.declared.ty.TyId.{TyId}
use Rattle.mir_ty.specs.AreItems.{types_in}
use Rattle.mir_ty.specs.ItemTable.{type_at}
use Rattle.mir_ty.specs.Parts.{parts_of, field_ty, fields_of, variants_of, captures_of, of_one_variant}
use Rattle.store_model.specs.Places.Place.{is_reference}
use Rattle.store_model.specs.Places.TypeForms as type_forms
use Rattle.typed_tree.specs.Tree.{ProgramTree}
use Rattle.src_meaning.specs.Locals.OfBody.{bool_ty}
use Rattle.well_typed.specs.Program.{WellTyped}
use Rattle.well_typed.specs.Types as types
use Rattle.lower_rules.proofs.KnownTypes.{tuple_known, array_known}
use Rattle.lower_laws.proofs.Base.{untrue, and_first, and_second}
use Rattle.lower_laws.proofs.Patterns as pattern_lines
use Rattle.lower_ready.proofs.Alone.{references_are_alone, same_reference}

-- ---- lists
pub both_so : (a b : Bool) → a ≡ true → b ≡ true → a && b ≡ true
both_so true b e d = d
both_so false b e d = e

pub not_true : (b : Bool) → not b ≡ true → b ≡ false
not_true true h = absurd (untrue h)
not_true false h = refl

pub all_at : {A : Type 0} (test : A → Bool) (xs : List A) (i : ℕ) (x : A) → list_all test xs ≡ true → slice_get xs i ≡ Some x → test x ≡ true
all_at test [] i x h e = absurd (none-some x e)
all_at test (y ∷ ys) zero x h e = subst (λ z. test z ≡ true) (same_Some y x e) (and_first (test y) _ h)
all_at test (y ∷ ys) (suc i) x h e = all_at test ys i x (and_second (test y) _ h) e

pub first_no : (x y : Bool) → x || y ≡ false → x ≡ false
first_no true y e = absurd (untrue (sym e))
first_no false y e = refl

pub second_no : (x y : Bool) → x || y ≡ false → y ≡ false
second_no true y e = absurd (untrue (sym e))
second_no false y e = e

pub none_at : {A : Type 0} (test : A → Bool) (xs : List A) (i : ℕ) (x : A) → list_any test xs ≡ false → slice_get xs i ≡ Some x → test x ≡ false
none_at test [] i x h e = absurd (none-some x e)
none_at test (y ∷ ys) zero x h e = subst (λ z. test z ≡ false) (same_Some y x e) (first_no (test y) _ h)
none_at test (y ∷ ys) (suc i) x h e = none_at test ys i x (second_no (test y) _ h) e

pub either_first : (x y : Bool) → x ≡ true → x || y ≡ true
either_first true y e = refl
either_first false y e = absurd (untrue e)

pub either_second : (x y : Bool) → y ≡ true → x || y ≡ true
either_second true y e = refl
either_second false y e = e

-- ---- the items of a program
module _ (p : ProgramTree) (w : WellTyped p) where
  pub alone : list_all (λ ty. holds_no_reference p.items (types_in ty)) p.items.types
      && list_all (λ (adt : Adt). list_all (λ (variant : Variant). holds_no_reference p.items variant.fields) adt.variants) p.items.adts
      && list_all (λ (closure : ClosureDef). holds_no_reference p.items closure.captures) p.items.closures
      && list_all (λ (sig : Sig). holds_no_reference p.items (sig.result ∷ [])) p.items.bodies
      && list_all (λ (def : TraitDef). list_all (λ (method : Sig). holds_no_reference p.items (method.result ∷ [])) def.methods) p.items.traits ≡ true
  alone = references_are_alone p w

  abbrev pub NotRef : TyId → Type 0
  NotRef ty = types.is_reference p.items ty ≡ false

  pub held_not : (ids : List TyId) (n : ℕ) (j : TyId) → holds_no_reference p.items ids ≡ true → slice_get ids n ≡ Some j → NotRef j
  held_not ids n j h e = same_reference (type_at p.items j) ∙ none_at (λ id. is_reference (type_at p.items id)) ids n j (not_true _ h) e

  pub all_not : (ids : List TyId) → holds_no_reference p.items ids ≡ true → list_all (λ j. not (types.is_reference p.items j)) ids ≡ true
  all_not [] h = refl
  all_not (id ∷ ids) h =
      let no = not_true (is_reference (type_at p.items id) || list_any (λ id. is_reference (type_at p.items id)) ids) h in
      both_so _ _ (ap not (same_reference (type_at p.items id) ∙ first_no _ _ no)) (all_not ids (ap not (second_no (is_reference (type_at p.items id)) _ no)))

  pub of_type : (id : TyId) (ty : Ty) → type_at p.items id ≡ Some ty → holds_no_reference p.items (types_in ty) ≡ true
  of_type id ty e = all_at (λ ty. holds_no_reference p.items (types_in ty)) p.items.types id.0 ty (and_first _ _ (and_first _ _ (and_first _ _ (and_first _ _ alone)))) e

  pub one_variant : (ids : List TyId) (v n : ℕ) (j : TyId) → holds_no_reference p.items ids ≡ true → slice_get (of_one_variant ids v) n ≡ Some j → NotRef j
  one_variant ids v n j h e = by (v == 0) e
    where
      by : (b : Bool) → slice_get (if b then ids else []) n ≡ Some j → NotRef j
      by true e = held_not ids n j h e
      by false e = absurd (none-some j e)

  pub repeated : (count : ℕ) (element : TyId) → NotRef element → holds_no_reference p.items (replicate count element) ≡ true
  repeated zero element h = refl
  repeated (suc count) element h = ap (λ (b : Bool). not (b || list_any (λ id. is_reference (type_at p.items id)) (replicate count element))) (sym (same_reference (type_at p.items element)) ∙ h) ∙ repeated count element h

  pub of_adt : (n v k : ℕ) (j : TyId) → slice_get (fields_of (slice_get (variants_of (slice_get p.items.adts n)) v)) k ≡ Some j → NotRef j
  of_adt n v k j e = by (slice_get p.items.adts n) refl e
    where
      in_variant : (adt : Adt) → slice_get p.items.adts n ≡ Some adt → (o : Option Variant) → slice_get adt.variants v ≡ o → slice_get (fields_of o) k ≡ Some j → NotRef j
      in_variant adt q None s e = absurd (none-some j e)
      in_variant adt q (Some variant) s e =
          held_not variant.fields k j
          (all_at (λ (variant : Variant). holds_no_reference p.items variant.fields) adt.variants v variant
          (all_at (λ (adt : Adt). list_all (λ (variant : Variant). holds_no_reference p.items variant.fields) adt.variants) p.items.adts n adt (and_second (list_all (λ ty. holds_no_reference p.items (types_in ty)) p.items.types) _ (and_first _ _ (and_first _ _ (and_first _ _ alone)))) q) s) e

      by : (o : Option Adt) → slice_get p.items.adts n ≡ o → slice_get (fields_of (slice_get (variants_of o) v)) k ≡ Some j → NotRef j
      by None q e = absurd (none-some j e)
      by (Some adt) q e = in_variant adt q (slice_get adt.variants v) refl e

  pub of_closure : (n v k : ℕ) (j : TyId) → slice_get (of_one_variant (captures_of (slice_get p.items.closures n)) v) k ≡ Some j → NotRef j
  of_closure n v k j e = by (slice_get p.items.closures n) refl e
    where
      by : (o : Option ClosureDef) → slice_get p.items.closures n ≡ o → slice_get (of_one_variant (captures_of o) v) k ≡ Some j → NotRef j
      by None q e = one_variant [] v k j refl e
      by (Some def) q e = one_variant def.captures v k j (all_at (λ (closure : ClosureDef). holds_no_reference p.items closure.captures) p.items.closures n def (and_second _ _ (and_first _ _ (and_first _ _ alone))) q) e

  pub of_part : (id : TyId) (ty : Ty) (v k : ℕ) (j : TyId) → type_at p.items id ≡ Some ty → slice_get (parts_of p.items ty v) k ≡ Some j → NotRef j
  of_part id (Ty.Adt n) v k j q e = of_adt n v k j e
  of_part id (Ty.Tuple parts) v k j q e = one_variant parts v k j (of_type id (Ty.Tuple parts) q) e
  of_part id (Ty.Array element count) v k j q e = one_variant (replicate count element) v k j (repeated count element (held_not (element ∷ []) 0 element (of_type id (Ty.Array element count) q) refl)) e
  of_part id (Ty.Closure n) v k j q e = of_closure n v k j e
  of_part id other v k j q e = absurd (none-some j e)

  pub fields_not : (id : TyId) (v n : ℕ) (j : TyId) → field_ty p.items id v n ≡ Some j → NotRef j
  fields_not id v n j e = by (type_at p.items id) refl e
    where
      by : (o : Option Ty) → type_at p.items id ≡ o → option_and_then (λ ty. slice_get (parts_of p.items ty v) n) o ≡ Some j → NotRef j
      by None q e = absurd (none-some j e)
      by (Some ty) q e = of_part id ty v n j q e

  pub tuples_not : (id : TyId) (tys : List TyId) → types.tuple_of p.items id ≡ Some tys → list_all (λ j. not (types.is_reference p.items j)) tys ≡ true
  tuples_not id tys e = all_not tys (of_type id (Ty.Tuple tys) (tuple_known p.items id tys e))

  pub arrays_not : (id : TyId) (a : TyId × ℕ) → types.array_of p.items id ≡ Some a → NotRef a.0
  arrays_not id a e = held_not (a.0 ∷ []) 0 a.0 (of_type id (Ty.Array a.0 a.1) (array_known p.items id a e)) refl

  pub results_not : (n : ℕ) (sig : Sig) → slice_get p.items.bodies n ≡ Some sig → NotRef sig.result
  results_not n sig e = held_not (sig.result ∷ []) 0 sig.result (all_at (λ (sig : Sig). holds_no_reference p.items (sig.result ∷ [])) p.items.bodies n sig (and_second _ _ (and_first _ _ alone)) e) refl

  pub methods_not : (n m : ℕ) (def : TraitDef) (sig : Sig) → slice_get p.items.traits n ≡ Some def → slice_get def.methods m ≡ Some sig → NotRef sig.result
  methods_not n m def sig q e =
      held_not (sig.result ∷ []) 0 sig.result
      (all_at (λ (method : Sig). holds_no_reference p.items (method.result ∷ [])) def.methods m sig
      (all_at (λ (def : TraitDef). list_all (λ (method : Sig). holds_no_reference p.items (method.result ∷ [])) def.methods) p.items.traits n def (and_second _ _ alone) q) e) refl

  pub truth_not : NotRef (bool_ty p.items)
  truth_not = by (nat_lt at (length p.items.types))
    where
      test : Ty → Bool
      test ty = type_forms.is_bool (Some ty)

      at : ℕ
      at = position_or_len (λ ty. type_forms.is_bool (Some ty)) p.items.types

      no_ref : (ty : Ty) → test ty ≡ true → is_some (types.reference_in ty) ≡ false
      no_ref (Ty.Shared to) h = absurd (untrue h)
      no_ref (Ty.Unique to) h = absurd (untrue h)
      no_ref _ h = refl

      found_one : (o : Option Ty) → find test p.items.types ≡ o → is_some (option_and_then types.reference_in o) ≡ false
      found_one None e = refl
      found_one (Some ty) e = no_ref ty (pattern_lines.found_so test p.items.types ty e)

      behind : (o : Option Ty) → slice_get p.items.types (length p.items.types) ≡ o → is_some (option_and_then types.reference_in o) ≡ false
      behind None e = refl
      behind (Some ty) e = absurd (let l = slice_get_within p.items.types (length p.items.types) ty e in let never : ⊥ = omega (l, arith) in never)

      by : (b : Bool) → types.is_reference p.items (record { 0 = option_map_or (λ n. n) (cond b (Some at) None) (length p.items.types) }) ≡ false
      by true = ap (λ (o : Option Ty). is_some (option_and_then types.reference_in o)) (sym (find_at test p.items.types)) ∙ found_one (find test p.items.types) refl
      by false = behind (slice_get p.items.types (length p.items.types)) refl
