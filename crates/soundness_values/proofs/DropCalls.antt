-- A `Drop` body that keeps to the contract of calls owes the ladder nothing more.
use Rattle.std.proofs.Common.{◌≡◌, ℕ, suc, ◌<◌, Bool, true, false, List, [], ◌∷◌, length, Option, Some, None, refl, ap, sym, ◌∙◌, subst}
use Rattle.std.specs.Prelude.{slice_get}
use Rattle.mir_base.specs.declared.trace.Event.{Event}
use Rattle.mir_ty.specs.declared.def.Sig.{Sig}
use Rattle.mir_ty.specs.declared.ty.Ty.{Ty}
use Rattle.mir_ty.specs.declared.ty.TyId.{TyId}
use Rattle.mir_ty.specs.ItemTable.{ItemTable, type_at}
use Rattle.store_model.specs.declared.address.Addr.{Addr}
use Rattle.store_model.specs.Values.Datum.{Datum, Data, Aggregate, Address}
use Rattle.store_model.specs.Abstract.Presence.{is_present}
use Rattle.store_model.specs.Effects.{Halt}
use Rattle.store_model.specs.Places.Place.{is_reference}
use Rattle.store_model.specs.Concrete.Drops.{drop_impl}
use Rattle.store_model.specs.Concrete.Location.{Setting, DynamicType, OfType, concrete_ty, is_of_type, Located, located_at, stored_at}
use Rattle.store_model.specs.Concrete.State.{State, Bodies, Answer, Returns, Unwinds, HaltsIn}
use Rattle.soundness_values.specs.Frames.{Alike, written}
use Rattle.soundness_values.specs.Typed.{is_found}
use Rattle.soundness_values.proofs.Behind.{LeavesSelf, drop_returns, drop_unwinds}
use Rattle.soundness_values.proofs.Contracts.{targets_of, uniques_of, AllAlone, MayRun, Leaves, LeftSo, returned, unwound, halted}
use Rattle.soundness_values.proofs.Dropping.{nothing_kept}
use Rattle.soundness_values.proofs.Facts.{Each}
use Rattle.soundness_values.proofs.Fits.{Fits}
use Rattle.soundness_values.proofs.Known.{Target, StandsFor}
use Rattle.soundness_values.proofs.LadderEnds.{DropKeeps, DropsKeep, halts}
use Rattle.soundness_values.proofs.Reached.{address_of}
use Rattle.soundness_values.proofs.Standings.{alike_located, stored_located}

module _ (setting : Setting) where
  abbrev items : ItemTable
  items = setting.items

  -- the head of a `Drop` body, by the rules of items: its only parameter is `&mut self`
  pub record DropHead (f : DynamicType) (body : ℕ) : Type 0 where
    pub sig : Sig
    pub sig_is : slice_get items.bodies body ≡ Some sig
    pub self : TyId
    pub to : TyId
    pub params_are : sig.params ≡ self ∷ []
    pub self_is : type_at items self ≡ Some (Ty.Unique to)
    pub of_type : is_of_type items to f ≡ true

  -- the target of `self`
  abbrev pub self_target : TyId → Addr → Target
  self_target to a = record { unique = true; local = 1; address = a; to = to }

  pub targets_are : (self to : TyId) (a : Addr) → type_at items self ≡ Some (Ty.Unique to) →
      targets_of items 1 (self ∷ []) (Address a ∷ []) ≡ self_target to a ∷ []
  targets_are self to a e = cc

  -- the call of a `Drop` body may be made
  pub may_run : (self to : TyId) (w : State) (s : Located) → type_at items self ≡ Some (Ty.Unique to) →
      is_of_type items to s.dynamic ≡ true → is_found items s.dynamic ≡ true →
      located_at setting w s.address ≡ Some s → Fits items s.dynamic is_present s.value →
      MayRun setting (self ∷ []) (Address s.address ∷ []) w
  may_run self to w s e h i at fit =
      record {
        whole = ((refl, ap is_reference e), tt);
        stands = subst (Each (λ t. StandsFor setting 0 t w)) (sym (targets_are self to s.address e)) (
          record { standing = s; stands = at; of_type = h; by_impl = i; whole = fit },
          tt,
        );
        alone = subst AllAlone (sym (targets_are self to s.address e)) (tt, tt);
      }

  module _ (size : ℕ → ℕ) (sized : (body key : ℕ) (id : TyId) → setting.local_ty body key ≡ Some id → key < size body)
      (run : Bodies)
      (keep : (event : Event) (n : ℕ) (sig : Sig) (args : List Datum) (w : State) → slice_get items.bodies n ≡ Some sig
      →
      MayRun setting sig.params args w → LeftSo setting (targets_of items 1 sig.params args) sig.result w
      (run event n args w))
      (drop_heads : (f : DynamicType) (of : ℕ × ℕ) → drop_impl items (concrete_ty items f) ≡ Some of →
      is_found items f ≡ true → DropHead f of.1) where
    -- how `self` is left
    leaves_self : (dropping : List ℕ) (to : TyId) (w v : State) (s : Located) → located_at setting w s.address ≡ Some s →
        Leaves setting (self_target to s.address ∷ []) w v →
        LeavesSelf setting size sized (nothing_kept setting size) dropping s w v
    leaves_self dropping to w v s at l = by l.news l.many l.frame
      where
        some_same : {a b : Located} → Some a ≡ Some b → a ≡ b
        some_same x = cc

        by : (news : List Datum) → length news ≡ 1 → Alike v.activations (written (s.address ∷ []) news w).activations →
            LeavesSelf setting size sized (nothing_kept setting size) dropping s w v
        by [] m j = absurd (let never : ⊥ = cc in never)
        by (d ∷ more) m j =
            let now : record s { value = d } ≡ l.stands.0.standing =
            some_same (sym (alike_located setting v (stored_at s.address d w) j s.address
            ∙ stored_located setting w s.address s d at) ∙ l.stands.0.stands) in
            record {
              new = d;
              changed = j;
              fit = subst (λ (x : Located). Fits items x.dynamic is_present x.value) (sym now) l.stands.0.whole;
              good = λ own is_own. tt;
            }

    left_self : (dropping : List ℕ) (to result : TyId) (w : State) (s : Located) (of : ℕ × ℕ) (answer : Answer) →
        located_at setting w s.address ≡ Some s → drop_impl items (concrete_ty items s.dynamic) ≡ Some of →
        LeftSo setting (self_target to s.address ∷ []) result w answer →
        DropKeeps setting size sized (nothing_kept setting size) dropping s w answer
    left_self dropping to result w s of _ at impl (returned value v l fit) =
        drop_returns setting size sized (nothing_kept setting size) dropping s of w value v impl
        (leaves_self dropping to w v s at l)
    left_self dropping to result w s of _ at impl (unwound v l) =
        drop_unwinds setting size sized (nothing_kept setting size) dropping s of w v impl
        (leaves_self dropping to w v s at l)
    left_self dropping to result w s of _ at impl (halted halt v m) = halts halt v m tt

    -- `Drop` bodies keep what they owe
    pub drops_keep : DropsKeep setting size sized (nothing_kept setting size) run
    drops_keep dropping w s of variant serial parts at value impl fit found room good =
        let h = drop_heads s.dynamic of impl found in
        let kept = keep (Event.Dropped of.0 serial) of.1 h.sig (Address s.address ∷ []) w h.sig_is
        (subst (λ l. MayRun setting l (Address s.address ∷ []) w) (sym h.params_are)
        (may_run h.self h.to w s h.self_is h.of_type found at fit)) in
        left_self dropping h.to h.sig.result w s of
        (run (Event.Dropped of.0 serial) of.1 (Address s.address ∷ []) w) at impl
        (subst (λ l. LeftSo setting l h.sig.result w
        (run (Event.Dropped of.0 serial) of.1 (Address s.address ∷ []) w))
        (ap (λ l. targets_of items 1 l (Address s.address ∷ [])) h.params_are
        ∙ targets_are h.self h.to s.address h.self_is) kept)
