-- A place behind a reference parameter is gone through from what the reference names; and a `Drop` body that keeps
-- the contract of calls owes the ladder nothing more.
use Rattle.std.proofs.Common.{◌≡◌, ℕ, ◌<◌, Bool, true, false, List, [], ◌∷◌, length, Option, Some, None, is_some, refl, ap, sym, ◌∙◌, subst}
use Rattle.std.proofs.lemmas.Bool.{false≢true}
use Rattle.std.specs.Prelude.{slice_get}
use Rattle.std.proofs.lemmas.Option.{none-some}
use Rattle.mir_ty.specs.declared.ty.Ty.{Ty}
use Rattle.mir_ty.specs.declared.ty.TyId.{TyId}
use Rattle.mir_ty.specs.ItemTable.{type_at}
use Rattle.store_model.specs.declared.address.Addr.{Addr}
use Rattle.store_model.specs.Values.Datum.{Datum, Gone, Number, Truth, UnitValue, Aggregate, Box, Address}
use Rattle.store_model.specs.Abstract.Presence.{Presence, is_present}
use Rattle.store_model.specs.Concrete.Drops.{drop_impl}
use Rattle.store_model.specs.Places.Place.{Step, ToContent, is_reference}
use Rattle.store_model.specs.Places.TypeForms.{int_kind, is_bool, is_unit, box_content}
use Rattle.store_model.specs.Concrete.Location.{Setting, OfType, concrete_ty, Located, stored_at, CutOff, Nowhere, reach, reach_of, on_reached, in_youngest, located_root, along}
use Rattle.store_model.specs.Concrete.State.{State, cell, Returns, Unwinds}
use Rattle.soundness_values.proofs.Fits.{Fits, whole_if_present}
use Rattle.soundness_values.proofs.Kept.{behind_reference, behind_shared}
use Rattle.soundness_values.proofs.Standings.{Alike}
use Rattle.soundness_values.proofs.Known.{Target, Known}
use Rattle.soundness_values.proofs.LadderEnds.{Kept, StandsWhole, DropKeeps, returns, unwinds}

abbrev pub names_it : Bool → TyId → Ty
names_it true to = Ty.Unique to
names_it false to = Ty.Shared to

module _ (setting : Setting) (number : ℕ) (targets : List Target) (uniques : List Addr) (base : State) where
  -- a place behind a reference parameter
  pub reach_behind : (w : State) (cells : List (ℕ × Presence))
      (k : Known setting number targets uniques base w cells)
      (n : ℕ) (t : Target) (e : slice_get targets n ≡ Some t) (id : TyId) (steps : List Step) →
      setting.local_ty number t.local ≡ Some id → type_at setting.items id ≡ Some (names_it t.unique t.to) →
      reach setting w (record { local = t.local; steps = ToContent ∷ steps }) ≡ along setting w k.held steps
      (k.stands n t e).standing
  reach_behind w cells k n t e id steps is_typed is_reference =
      ap (in_youngest setting w (record { local = t.local; steps = ToContent ∷ steps })) k.is_there
      ∙ ap (λ o. on_reached (reach_of (located_root (length k.older) t.local k.held o))
      (along setting w k.held (ToContent ∷ steps)) CutOff Nowhere) is_typed
      ∙ by t.unique is_reference
    where
      root : Located
      root = record {
        address = record { depth = length k.older; key = (record { 0 = t.local }); path = [] };
        dynamic =
            OfType id;
        value = cell t.local k.held;
      }

      by : (b : Bool) → type_at setting.items id ≡ Some (names_it b t.to) →
          along setting w k.held (ToContent ∷ steps) root ≡ along setting w k.held steps (k.stands n t e).standing
      by true h = behind_reference setting w k.held steps t.address root (k.stands n t e).standing t.to
          (k.named n t e) h (k.stands n t e).stands (k.stands n t e).of_type
      by false h = behind_shared setting w k.held steps t.address root (k.stands n t e).standing t.to
          (k.named n t e) h
          (k.stands n t e).stands (k.stands n t e).of_type

-- the serial number at the head of a value
abbrev pub head_serial : Datum → Option ℕ
head_serial (Aggregate variant serial parts) = serial
head_serial d = None

module _ (setting : Setting) (size : ℕ → ℕ)
    (sized : (body key : ℕ) (id : TyId) → setting.local_ty body key ≡ Some id →
    key < size body) (keeping : Kept setting size) where
  -- how a `Drop` body leaves the state, by the contract of calls: a whole value of its type stands at its one `&mut`
  -- target
  pub record LeavesSelf (dropping : List ℕ) (s : Located) (w v : State) : Type 0 where
    pub new : Datum
    pub changed : Alike v.activations (stored_at s.address new w).activations
    pub fit : Fits setting.items s.dynamic is_present new
    pub good : (own : ℕ) → head_serial new ≡ Some own → keeping.good (own ∷ dropping) v

  -- a value of a type with a `Drop` impl has a number at its head
  stands_whole : (dropping : List ℕ) (s : Located) (of : ℕ × ℕ) (w v : State) →
      drop_impl setting.items (concrete_ty setting.items s.dynamic) ≡ Some of → LeavesSelf dropping s w v →
      StandsWhole setting size sized keeping dropping s w v
  stands_whole dropping s of w v impl l = by l.new l.changed l.fit l.good
    where
      shaped : (o : Option Ty) → drop_impl setting.items o ≡ Some of → (n : ℕ) × (o ≡ Some (Ty.Adt n))
      shaped None e = absurd (none-some of e)
      shaped (Some (Ty.Adt n)) e = (n, refl)
      shaped (Some other) e = absurd (none-some of e)

      is_adt : (n : ℕ) × (concrete_ty setting.items s.dynamic ≡ Some (Ty.Adt n))
      is_adt = shaped (concrete_ty setting.items s.dynamic) impl

      numbered : (own : Option ℕ) → is_some own ≡ is_some (drop_impl setting.items
          (concrete_ty setting.items s.dynamic)) → (k : ℕ) × (own ≡ Some k)
      numbered (Some k) e = (k, refl)
      numbered None e = absurd (false≢true (e ∙ ap is_some impl))

      by : (d : Datum) → Alike v.activations (stored_at s.address d w).activations →
          Fits setting.items s.dynamic is_present d →
          ((own : ℕ) → head_serial d ≡ Some own → keeping.good (own ∷ dropping) v) →
          StandsWhole setting size sized keeping dropping s w v
      by Gone c f g = absurd (false≢true f)
      by (Number number) c f g = absurd (none-some f.1.0 (sym (ap int_kind is_adt.1) ∙ f.1.1))
      by (Truth truth) c f g = absurd (false≢true (sym (ap is_bool is_adt.1) ∙ f.1))
      by UnitValue c f g = absurd (false≢true (sym (ap is_unit is_adt.1) ∙ f.1))
      by (Address address) c f g = absurd (false≢true (sym (ap is_reference is_adt.1) ∙ f.1))
      by (Box k impl_no inside) c f g = absurd (none-some f.1.0 (sym (ap box_content is_adt.1) ∙ f.1.1))
      by (Aggregate variant own parts) c f g = let k = numbered own f.1 in
          subst (λ o. Alike v.activations (stored_at s.address (Aggregate variant o parts) w).activations →
          Fits setting.items s.dynamic is_present (Aggregate variant o parts) →
          ((n : ℕ) → head_serial (Aggregate variant o parts) ≡ Some n → keeping.good (n ∷ dropping) v) →
          StandsWhole setting size sized keeping dropping s w v) (sym k.1)
          (λ c f g. record {
            variant = variant;
            own = k.0;
            parts = parts;
            changed = c;
            fit = f;
            whole = whole_if_present setting.items (Aggregate variant (Some k.0) parts) s.dynamic is_present refl f;
            good = g k.0 refl;
          }) c f g

  pub drop_returns : (dropping : List ℕ) (s : Located) (of : ℕ × ℕ) (w : State) (value : Datum) (v : State) →
      drop_impl setting.items (concrete_ty setting.items s.dynamic) ≡ Some of → LeavesSelf dropping s w v →
      DropKeeps setting size sized keeping dropping s w (Returns value v)
  drop_returns dropping s of w value v impl l = returns value v (stands_whole dropping s of w v impl l)

  pub drop_unwinds : (dropping : List ℕ) (s : Located) (of : ℕ × ℕ) (w v : State) →
      drop_impl setting.items (concrete_ty setting.items s.dynamic) ≡ Some of → LeavesSelf dropping s w v →
      DropKeeps setting size sized keeping dropping s w (Unwinds v)
  drop_unwinds dropping s of w v impl l = unwinds v (stands_whole dropping s of w v impl l)
