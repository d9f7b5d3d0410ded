-- The `Drop` bodies of a well typed program: what is dropped by one is of the type that its only parameter, `&mut self`,
-- names.
use Rattle.std.proofs.Common.{◌≡◌, ℕ, ◌==◌, ◌&&◌, ◌||◌, Bool, true, false, List, [], ◌∷◌, Option, Some, None, refl, ap, sym, ◌∙◌, subst}
use Rattle.std.specs.Prelude.{slice_get}
use Rattle.std.specs.Cmp.{first_so, second_so}
use Rattle.std.specs.Option.{option_map_or}
use Rattle.std.proofs.lemmas.Bool.{false≢true}
use Rattle.std.proofs.lemmas.Bool.Decides.{Decides-eqb}
use Rattle.std.proofs.lemmas.Option.{none-some}
use Rattle.mir_ty.specs.declared.adt.Adt.{Adt}
use Rattle.mir_ty.specs.declared.def.Sig.{Sig}
use Rattle.mir_ty.specs.declared.ty.Ty.{Ty}
use Rattle.mir_ty.specs.declared.ty.TyId.{TyId}
use Rattle.mir_ty.specs.ItemTable.{ItemTable, type_at}
use Rattle.store_model.specs.Concrete.Drops.{drop_impl, with_drop_body}
use Rattle.store_model.specs.Concrete.Location.{DynamicType, OfType, OfObject, adt_of_impl, adt_ty, concrete_ty, is_of_type}
use Rattle.store_model.specs.Places.TypeForms.{is_adt}
use Rattle.src_meaning.specs.Programs.{setting_of}
use Rattle.typed_tree.specs.Tree.{ProgramTree}
use Rattle.well_typed.specs.Claim.{Holds}
use Rattle.well_typed.specs.Items.{has_drop_head}
use Rattle.well_typed.specs.Program.{WellTyped}
use Rattle.well_typed.specs.Types.{adt_of, reference_of, is_unit_ty}
use Rattle.well_typed.proofs.ItemLemmas.{are_distinct}
use Rattle.soundness_values.proofs.Behind.{names_it}
use Rattle.soundness_values.proofs.ClaimParts.{some_is, numbered_got, there_is, adt_is, is_numbered, refers_to, unique_so}
use Rattle.soundness_values.proofs.DropCalls.{DropHead}

module _ (items : ItemTable) where
  -- the struct or enum that has the impl, by its number
  pub record HasDrop (of : ℕ × ℕ) (o : Option Ty) : Type 0 where
    pub ty_is : o ≡ Some (Ty.Adt of.0)
    pub adt : Adt
    pub adt_is : slice_get items.adts of.0 ≡ Some adt
    pub body_is : adt.drop_body ≡ Some of.1

  pub has_drop : (of : ℕ × ℕ) (o : Option Ty) → drop_impl items o ≡ Some of → HasDrop of o
  has_drop of None e = absurd (none-some of e)
  has_drop of (Some (Ty.Adt n)) e = by (slice_get items.adts n) refl e
    where
      of_body : (adt : Adt) → slice_get items.adts n ≡ Some adt → (o : Option ℕ) → adt.drop_body ≡ o →
          with_drop_body n o ≡ Some of → HasDrop of (Some (Ty.Adt n))
      of_body adt d None b k = absurd (none-some of k)
      of_body adt d (Some body) b k = subst (λ (x : ℕ × ℕ). HasDrop x (Some (Ty.Adt n))) (some_is k)
          (record { ty_is = refl; adt = adt; adt_is = d; body_is = b })

      by : (o : Option Adt) → slice_get items.adts n ≡ o →
          with_drop_body n (option_map_or (λ (adt : Adt). adt.drop_body) o None) ≡ Some of →
          HasDrop of (Some (Ty.Adt n))
      by None d k = absurd (none-some of k)
      by (Some adt) d k = of_body adt d adt.drop_body refl k
  has_drop of (Some other) e = absurd (none-some of e)

  -- `&mut self` is the only parameter
  abbrev IsOneSelf : ℕ → List TyId → Bool
  IsOneSelf n (ty ∷ []) = option_map_or (λ (r : Bool × TyId). r.0) (reference_of items ty) false
      && option_map_or (is_numbered items (adt_of items) n) (reference_of items ty) false
  IsOneSelf n _ = false

  record OneSelf (n : ℕ) (params : List TyId) : Type 0 where
    pub self : TyId
    pub to : TyId
    pub params_are : params ≡ self ∷ []
    pub self_is : type_at items self ≡ Some (Ty.Unique to)
    pub to_is : type_at items to ≡ Some (Ty.Adt n)

  one_self : (n : ℕ) (params : List TyId) → IsOneSelf n params ≡ true → OneSelf n params
  one_self n [] h = absurd (false≢true h)
  one_self n (ty ∷ more ∷ rest) h = absurd (false≢true h)
  one_self n (ty ∷ []) h =
      let r = refers_to items (adt_of items) n ty
      (second_so (option_map_or (λ (x : Bool × TyId). x.0) (reference_of items ty) false) _ h) in
      let unique : r.unique ≡ true = sym (unique_so items r.unique r.to ty r.is_reference)
      ∙ first_so (option_map_or (λ (x : Bool × TyId). x.0) (reference_of items ty) false) _ h in
      record {
        self = ty;
        to = r.to;
        params_are = refl;
        self_is = r.is_reference ∙ ap (λ b. Some (names_it b r.to)) unique;
        to_is = adt_is items r.to n r.is_number;
      }

module _ (p : ProgramTree) (typed : WellTyped p) where
  abbrev table : ItemTable
  table = p.items

  -- what is found as a struct or an enum is of each type that it is
  of_one_type : (n : ℕ) (to : TyId) → type_at table to ≡ Some (Ty.Adt n) → (f : DynamicType) →
      concrete_ty table f ≡ Some (Ty.Adt n) → is_of_type table to f ≡ true
  of_one_type n to e (OfType id) c = (Decides-eqb to.0 id.0).1 (are_distinct p typed to.0 id.0 (Ty.Adt n) e c)
  of_one_type n to e (OfObject id impl_no) c = by (to.0 == id.0) (adt_of_impl table impl_no) c
    where
      by : (b : Bool) (o : Option ℕ) → adt_ty o ≡ Some (Ty.Adt n) →
          (b || option_map_or (λ m. is_adt m (type_at table to)) o false) ≡ true
      by true o k = refl
      by false None k = absurd (none-some (Ty.Adt n) k)
      by false (Some m) k =
          let same : m ≡ n = cc in ap (is_adt m) e ∙ (Decides-eqb m n).1 same

  pub drop_heads_of : (f : DynamicType) (of : ℕ × ℕ) → drop_impl table (concrete_ty table f) ≡ Some of →
      DropHead (setting_of p) f of.1
  drop_heads_of f of e =
      let d = has_drop table of (concrete_ty table f) e in
      let claim = numbered_got _ table.adts of.0 d.adt typed.0.1.0 d.adt_is in
      let head : Holds (has_drop_head table d.adt.name of.0 (Some of.1)) =
      subst (λ o. Holds (has_drop_head table d.adt.name of.0 o)) d.body_is claim.1.1.1 in
      let it = there_is (slice_get table.bodies of.1) _ head in
      let s = one_self table of.0 it.0.params
      (first_so (IsOneSelf table of.0 it.0.params) _ it.1.1.1) in
      record {
        sig = it.0;
        sig_is = it.1.0;
        self = s.self;
        to = s.to;
        params_are = s.params_are;
        self_is = s.self_is;
        of_type = of_one_type of.0 s.to s.to_is f d.ty_is;
      }

  -- it gives `()`
  pub drop_gives_unit : (f : DynamicType) (of : ℕ × ℕ) → drop_impl table (concrete_ty table f) ≡ Some of → (sig : Sig) →
      slice_get table.bodies of.1 ≡ Some sig → type_at table sig.result ≡ Some Ty.Unit
  drop_gives_unit f of e sig sig_is =
      let d = has_drop table of (concrete_ty table f) e in
      let claim = numbered_got _ table.adts of.0 d.adt typed.0.1.0 d.adt_is in
      let head : Holds (has_drop_head table d.adt.name of.0 (Some of.1)) =
      subst (λ o. Holds (has_drop_head table d.adt.name of.0 o)) d.body_is claim.1.1.1 in
      let it = there_is (slice_get table.bodies of.1) _ head in
      let same : it.0 ≡ sig = some_is (sym it.1.0 ∙ sig_is) in
      subst (λ (x : Sig). type_at table x.result ≡ Some Ty.Unit) same
      (unit_is (type_at table it.0.result) (second_so (IsOneSelf table of.0 it.0.params) _ it.1.1.1))
    where
      unit_is : (o : Option Ty) → option_map_or is_unit_ty o false ≡ true → o ≡ Some Ty.Unit
      unit_is None h = absurd (false≢true h)
      unit_is (Some Ty.Unit) h = refl
      unit_is (Some other) h = absurd (false≢true h)
