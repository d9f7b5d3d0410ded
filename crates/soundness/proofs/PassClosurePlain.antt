-- No parameter of a closure is a reference, by the rules of typing.
use Rattle.std.proofs.Common.{◌≡◌, ◌⊎◌, inl, inr, ℕ, zero, suc, ◌+◌, ◌<◌, ◌==◌, ◌&&◌, ◌||◌, not, Bool, true, false, List, [], ◌∷◌, map, length, Contains, Option, Some, None, if◌then◌else◌, refl, ap, sym, ◌∙◌, subst, arith}
use Rattle.std.specs.Prelude.{slice_get, option_and_then}
use Rattle.std.specs.Cmp.{first_so, second_so}
use Rattle.std.specs.Cmp.Derive.{both_true}
use Rattle.std.specs.List.{list_all, list_any, filter_map, cons_option}
use Rattle.std.specs.Option.{option_map_or}
use Rattle.std.proofs.lemmas.Bool.{false≢true}
use Rattle.std.proofs.lemmas.Bool.Decides.{Decides-eqb}
use Rattle.std.proofs.lemmas.Option.{none-some, same_Some}
use Rattle.mir_base.specs.declared.place_in_text.Pos.{Pos}
use Rattle.mir_ty.specs.declared.def.ClosureDef.{ClosureDef}
use Rattle.mir_ty.specs.declared.def.ImplDef.{ImplDef}
use Rattle.mir_ty.specs.declared.def.Sig.{Sig}
use Rattle.mir_ty.specs.declared.ty.Ty.{Ty}
use Rattle.mir_ty.specs.declared.ty.TyId.{TyId}
use Rattle.mir_ty.specs.ItemTable.{ItemTable, type_at}
use Rattle.store_model.specs.Places.Place.{is_reference}
use Rattle.src_meaning.specs.Programs.{setting_of}
use Rattle.typed_tree.specs.Nodes.{nodes_of}
use Rattle.typed_tree.specs.Tree.{Node, Nodes, no_node, a_node, BodyTree, ProgramTree}
use Rattle.typing_rules.specs.Replaced.{CalledBody, OfBody, OfTrait, Passing, passing, passings_of, passes_key, numbers_for, is_among, bodies_of, replaceable, method_in}
use Rattle.well_typed.specs.Claim.{Holds}
use Rattle.well_typed.specs.Items.{stands_alone}
use Rattle.well_typed.specs.Nodes.{is_closure_body}
use Rattle.well_typed.specs.Program.{WellTyped, are_params}
use Rattle.well_typed.specs.Types as types
use Rattle.soundness_values.proofs.Behind.{names_it}
use Rattle.soundness_values.proofs.Checks.{head_of}
use Rattle.soundness_values.proofs.ClaimParts.{numbered_got, there_is, all_got}
use Rattle.soundness_values.proofs.MethodHeads.{methods_of}
use Rattle.soundness_values.proofs.OnceByPass.{is_reference_at, protected}
use Rattle.soundness_cells.proofs.PassCells.{NodeIn}
use Rattle.soundness_cells.proofs.PassCellTypes as facts
use Rattle.soundness_cells.proofs.PassNumbers.{Rises}
use Rattle.soundness.proofs.PassProtectArgs.{ArgOk, ArgsOk}
use Rattle.soundness.proofs.PassProtectLaw.{Param, protected_param, passed_kept, first_passed, rest_passed, mapped_in}
use Rattle.soundness_values.proofs.Virtual.{a_reference, Method}

-- a member of a list has a number in it
pub some_at : {A : Type 0} (test : A → Bool) (l : List A) → list_any test l ≡ true →
    (k : ℕ) × ((x : A) × ((slice_get l k ≡ Some x) × (test x ≡ true)))
some_at test [] h = absurd (false≢true h)
some_at {A = A} test (x ∷ l) h = by (test x) refl h (λ e. some_at test l e)
  where
    by : (b : Bool) → test x ≡ b → (b || list_any test l) ≡ true →
        (list_any test l ≡ true → (k : ℕ) × ((y : A) × ((slice_get l k ≡ Some y) × (test y ≡ true)))) →
        (k : ℕ) × ((y : A) × ((slice_get (x ∷ l) k ≡ Some y) × (test y ≡ true)))
    by true t e later = (0, (x, (refl, t)))
    by false t e later = let r = later e in (suc r.0, (r.1.0, r.1.1))

module _ (p : ProgramTree) (typed : WellTyped p) where
  no_ref : (id : TyId) → stands_alone p.items id ≡ true → is_reference (type_at p.items id) ≡ false
  no_ref id h = sym (facts.reference_by (type_at p.items id)) ∙ facts.is_false (types.is_reference p.items id)
      (facts.right_of _ (not (types.is_reference p.items id)) (facts.right_of _ _ h))

  closure_no_ref : (id : TyId) (m : ℕ) → types.closure_of p.items id ≡ Some m →
      is_reference (type_at p.items id) ≡ false
  closure_no_ref id m e = by (type_at p.items id) e
    where
      by : (o : Option Ty) → option_and_then types.closure_in o ≡ Some m → is_reference o ≡ false
      by None e = refl
      by (Some (Ty.Shared to)) e = absurd (none-some m e)
      by (Some (Ty.Unique to)) e = absurd (none-some m e)
      by (Some ty) e = refl

  -- no parameter of a closure is a reference
  pub closure_plain : (callee : ℕ) (its : Sig) → slice_get p.items.bodies callee ≡ Some its →
      is_closure_body p.items callee ≡ true → (id : TyId) (j : ℕ) → slice_get its.params j ≡ Some id →
      is_reference (type_at p.items id) ≡ false
  closure_plain callee its e c = of_params its.params refl
    where
      found : (k : ℕ) × ((def : ClosureDef) × ((slice_get p.items.closures k ≡ Some def) ×
          ((def.body == callee) ≡ true)))
      found = some_at (λ (def : ClosureDef). def.body == callee) p.items.closures c

      is_inside : slice_get p.items.bodies found.1.0.body ≡ Some its
      is_inside = ap (slice_get p.items.bodies) ((Decides-eqb found.1.0.body callee).0 found.1.1.1) ∙ e

      of_params : (tys : List TyId) → its.params ≡ tys → (id : TyId) (j : ℕ) → slice_get tys j ≡ Some id →
          is_reference (type_at p.items id) ≡ false
      of_params [] same id j g = absurd (none-some id g)
      of_params (ty ∷ rest) same id j g =
          let claim = numbered_got _ p.items.closures found.0 found.1.0 typed.0.1.1.1.1.1.0 found.1.1.0 in
          let s = there_is (slice_get p.items.bodies found.1.0.body) _ claim.1 in
          let one : s.0 ≡ its = same_Some s.0 its (sym s.1.0 ∙ is_inside) in
          let begins = subst (λ (x : Sig). Begins found.0 x.params ≡ true) one s.1.1 in
          let parts = subst (λ l. Begins found.0 l ≡ true) same begins in
          by id j g (first_so (is_it found.0 ty) (list_all (stands_alone p.items) rest) parts)
          (second_so (is_it found.0 ty) (list_all (stands_alone p.items) rest) parts)
        where
          is_it : ℕ → TyId → Bool
          is_it n ty = option_map_or (λ m. m == n) (types.closure_of p.items ty) false

          Begins : ℕ → List TyId → Bool
          Begins n [] = false
          Begins n (ty ∷ tys) = is_it n ty && list_all (stands_alone p.items) tys

          is_one : (o : Option ℕ) → types.closure_of p.items ty ≡ o → option_map_or (λ m. m == found.0) o false ≡ true →
              is_reference (type_at p.items ty) ≡ false
          is_one None s h = absurd (false≢true h)
          is_one (Some m) s h = closure_no_ref ty m s

          by : (id : TyId) (j : ℕ) → slice_get (ty ∷ rest) j ≡ Some id → is_it found.0 ty ≡ true →
              list_all (stands_alone p.items) rest ≡ true → is_reference (type_at p.items id) ≡ false
          by id zero g h k = subst (λ t. is_reference (type_at p.items t) ≡ false) (same_Some ty id g)
              (is_one (types.closure_of p.items ty) refl h)
          by id (suc j) g h k = no_ref id (all_got (stands_alone p.items) rest j id k g)
