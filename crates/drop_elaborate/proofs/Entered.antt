-- How a body of a ready graph may be entered: with full values of the types of its signature, of which each reference
-- names what is full. So it is by calls, by calls through a trait, and by drops.
use Rattle.std.proofs.Common.{◌≡◌, ℕ, ◌<◌, true, List, [], ◌∷◌, length, Option, Some, slice_get, refl, ap, sym, ◌∙◌, subst}
use Rattle.std.specs.Cmp.{first_so, second_so}
use Rattle.std.proofs.lemmas.Bool.{false≢true}
use Rattle.mir_ty.specs.declared.def.Sig.{Sig}
use Rattle.mir_ty.specs.declared.ty.Ty.{Ty}
use Rattle.mir_ty.specs.declared.ty.TyId.{TyId}
use Rattle.mir_ty.specs.ItemTable.{ItemTable, type_at}
use Rattle.store_model.specs.declared.address.Addr.{Addr}
use Rattle.store_model.specs.Concrete.Drops.{drop_impl}
use Rattle.store_model.specs.Concrete.Location.{Setting, concrete_ty, located_at}
use Rattle.store_model.specs.Concrete.State.{State}
use Rattle.store_model.specs.Places.Place.{is_reference}
use Rattle.store_model.specs.Places.TypeForms.{same_id, same_ids}
use Rattle.store_model.specs.Values.Datum.{Datum, Address}
use Rattle.drop_values.specs.Like.{raw_setting, MayEnter}
use Rattle.drop_values.specs.Typed.{a_type, IsFull}
use Rattle.drop_values.proofs.Made.{AllFull}
use Rattle.drop_values.proofs.Named.{standing-shallow}
use Rattle.drop_values.proofs.Touched.{AllNameFull, addresses_of, MayDrop, only_one}
use Rattle.drop_elaborate.proofs.OperandTypes.{same-ty}

module _ (items : ItemTable) (local_ty : (body local : ℕ) → Option TyId) where
  abbrev raw : Setting
  raw = raw_setting items local_ty

  pub record Enters (callee : ℕ) (args : List Datum) (w : State) : Type 0 where
    pub sig : Sig
    pub sig_is : slice_get items.bodies callee ≡ Some sig
    pub full : AllFull items sig.params args
    pub named : AllNameFull items local_ty w (addresses_of args)

  pub same-list : (xs ys : List TyId) → same_ids xs ys ≡ true → xs ≡ ys
  same-list [] [] h = refl
  same-list [] (y ∷ ys) h = absurd (false≢true h)
  same-list (x ∷ xs) [] h = absurd (false≢true h)
  same-list (x ∷ xs) (y ∷ ys) h =
      let a = same-ty x y (first_so (same_id x y) (same_ids xs ys) h) in
      let b = same-list xs ys (second_so (same_id x y) (same_ids xs ys) h) in
      ap (λ x. x ∷ xs) a ∙ ap (λ l. y ∷ l) b

  -- the body of a `Drop` impl takes one reference
  abbrev pub DropsTakeOne : Type 0
  DropsTakeOne = (o : Option Ty) (of : ℕ × ℕ) → drop_impl items o ≡ Some of →
      (sig : Sig) × (slice_get items.bodies of.1 ≡ Some sig)
      × ((only : TyId) × (sig.params ≡ only ∷ []) × (is_reference (type_at items only) ≡ true))

  module _ (drops : DropsTakeOne) where
    pub may-drop : MayDrop items local_ty Enters
    may-drop of s w impl st full =
        let d = drops (concrete_ty items s.dynamic) of impl in record {
          sig = d.0;
          sig_is = d.1;
          full = subst (λ ids. AllFull items ids (Address s.address ∷ [])) (sym d.2.1) (
            (a_type d.2.0, (refl, d.2.2)),
            tt,
          );
          named = λ a among.
              let same : a ≡ s.address = only_one items local_ty s.address a among in (
                λ t e. let one : s ≡ t = (let x : Some s ≡ Some t = sym st ∙ ap (located_at raw w) (sym same) ∙ e in
                    cc) in
                    subst (λ x. IsFull items x.dynamic x.value) one full,
                subst (λ (x : Addr). x.depth < length w.activations) (sym same)
                    (standing-shallow items local_ty w s.address s st),
              );
        }

    pub may-enter : MayEnter items local_ty Enters
    may-enter flags of s w w' like impl st full = may-drop of s w impl st full
