-- Which bodies are called: a body's result has the type of its signature, and the body that is found for a trait's
-- method, by the impl of a trait object, implements it; so it may be entered.
use Rattle.std.proofs.Common.{◌≡◌, ℕ, nat_lt, Bool, true, false, List, [], ◌∷◌, Option, Some, None, slice_get, refl, ap, sym, ◌∙◌, subst}
use Rattle.std.specs.Prelude.{option_and_then}
use Rattle.std.proofs.lemmas.Option.{none-some}
use Rattle.mir_ty.proofs.ListLemmas.{Contains-slice_get}
use Rattle.mir_ty.specs.declared.def.Sig.{Sig}
use Rattle.mir_ty.specs.declared.ty.TyId.{TyId}
use Rattle.mir_ty.specs.ItemTable.{ItemTable, type_at}
use Rattle.cfg_graph.specs.WellFormed.Typing.{method_at}
use Rattle.store_model.specs.Concrete.Effects.{if_so, row_body, object_body, virtual_body}
use Rattle.store_model.specs.Concrete.Location.{Setting, DynamicType, Located, located_at}
use Rattle.store_model.specs.Concrete.State.{State}
use Rattle.store_model.specs.Places.Place.{is_reference}
use Rattle.store_model.specs.Places.TypeForms.{is_dyn_of}
use Rattle.store_model.specs.Values.Datum.{Datum, Gone, Number, Truth, UnitValue, Aggregate, Box, Address}
use Rattle.drop_values.specs.Like.{raw_setting}
use Rattle.drop_values.specs.Typed.{has_impl, Proper, a_type, an_object}
use Rattle.drop_values.proofs.Made.{AllFull}
use Rattle.drop_values.proofs.Touched.{AllNameFull, addresses_of}
use Rattle.drop_elaborate.proofs.Entered.{Enters}

-- a body takes what a trait's method takes, but for `self`, and gives what it gives
pub record Implements (items : ItemTable) (method sig : Sig) : Type 0 where
  pub object : TyId
  pub own : TyId
  pub params : List TyId
  pub method_params : method.params ≡ object ∷ params
  pub sig_params : sig.params ≡ own ∷ params
  pub reference : is_reference (type_at items own) ≡ true
  pub result : method.result ≡ sig.result

-- the results of bodies have the types of their signatures, and a body that is found by an impl implements the method
pub record CalleesOk (items : ItemTable) (local_ty : (body local : ℕ) → Option TyId) (bodies : ℕ) : Type 0 where
  pub results : (callee : ℕ) (sig : Sig) → slice_get items.bodies callee ≡ Some sig → nat_lt callee bodies ≡ true →
      local_ty callee 0 ≡ Some sig.result
  pub rows : (trait_no method : ℕ) (m : Sig) → method_at items trait_no method ≡ Some m → (id : TyId)
      (impl_no callee : ℕ) → is_dyn_of trait_no (type_at items id) ≡ true →
      has_impl items (type_at items id) (Some impl_no) ≡ true → row_body (raw_setting items local_ty) items method
      impl_no ≡ Some callee →
      (sig : Sig) × (slice_get items.bodies callee ≡ Some sig) × (nat_lt callee bodies ≡ true) × Implements items m sig

module _ (items : ItemTable) (local_ty : (body local : ℕ) → Option TyId) (bodies : ℕ)
    (callees : CalleesOk items local_ty bodies) where
  abbrev raw : Setting
  raw = raw_setting items local_ty

  -- the body that is found for a trait's method may be entered
  pub virtual-enters : (trait_no method : ℕ) (m : Sig) → method_at items trait_no method ≡ Some m → (vs : List Datum)
      (u : State) (callee : ℕ) → AllFull items m.params vs → AllNameFull items local_ty u (addresses_of vs) →
      virtual_body raw trait_no method u vs ≡ Some callee →
      Enters items local_ty callee vs u × (local_ty callee 0 ≡ Some m.result)
  virtual-enters trait_no method m is (Address a ∷ vs) u callee full named e = by (located_at raw u a) refl e
    where
      Answer : Type 0
      Answer = Enters items local_ty callee (Address a ∷ vs) u × (local_ty callee 0 ≡ Some m.result)

      of-row : (id : TyId) (impl_no : ℕ) (row : Option ℕ) → row_body raw items method impl_no ≡ row → (b : Bool) →
          is_dyn_of trait_no (type_at items id) ≡ b →
          option_and_then (λ body. if_so {A = ℕ} b body) row ≡ Some callee →
          has_impl items (type_at items id) (Some impl_no) ≡ true → Answer
      of-row id impl_no None r b d e has = absurd (none-some callee e)
      of-row id impl_no (Some x) r false d e has = absurd (none-some callee e)
      of-row id impl_no (Some x) r true d e has =
          let k = callees.rows trait_no method m is id impl_no callee d has (r ∙ e) in
          let i = k.3 in
          let f : AllFull items (i.object ∷ i.params) (Address a ∷ vs) =
          subst (λ ids. AllFull items ids (Address a ∷ vs)) i.method_params full in (
            record {
              sig = k.0;
              sig_is = k.1;
              full = subst (λ ids. AllFull items ids (Address a ∷ vs)) (sym i.sig_params)
                  ((a_type i.own, (refl, i.reference)), f.1);
              named = named;
            },
            callees.results callee k.0 k.1 k.2 ∙ ap Some (sym i.result),
          )

      of-found : (found : DynamicType) → object_body raw trait_no method found ≡ Some callee → Proper items found →
          Answer
      of-found _ e (a_type id) = absurd (none-some callee e)
      of-found _ e (an_object id impl_no n dyn has) =
          of-row id impl_no (row_body raw items method impl_no) refl (is_dyn_of trait_no (type_at items id)) refl e
          (ap (λ o. has_impl items o (Some impl_no)) dyn ∙ has)

      by : (o : Option Located) → located_at raw u a ≡ o →
          option_and_then (λ (s : Located). object_body raw trait_no method s.dynamic) o ≡ Some callee → Answer
      by None h e = absurd (none-some callee e)
      by (Some s) h e =
          of-found s.dynamic e ((named a (Contains-slice_get (a ∷ addresses_of vs) 0 a refl)).0 s h).0
  virtual-enters trait_no method m is other u callee full named e = absurd (none-some callee e)
