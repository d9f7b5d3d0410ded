-- The contract of a call: its values are whole and of the types of the parameters, what its references name is whole,
-- and what a `&mut` one names is apart from all others; then older activations are changed at what `&mut` references
-- name alone, and all that is named is whole.
use Rattle.std.proofs.Common.{◌≡◌, ℕ, suc, ◌||◌, Bool, true, false, List, [], ◌∷◌, ◌++◌, length, Option, Some, None, refl, ap, sym, ◌∙◌, subst}
use Rattle.mir_ty.specs.declared.ty.Ty.{Ty}
use Rattle.mir_ty.specs.declared.ty.TyId.{TyId}
use Rattle.mir_ty.specs.ItemTable.{ItemTable, type_at}
use Rattle.store_model.specs.declared.address.Addr.{Addr}
use Rattle.store_model.specs.Values.Datum.{Datum, Address}
use Rattle.store_model.specs.Abstract.Presence.{is_present}
use Rattle.store_model.specs.Effects.{Halt}
use Rattle.store_model.specs.Concrete.Location.{Setting, OfType, Located, located_at, named_by, stored_at}
use Rattle.store_model.specs.Concrete.State.{State, Answer, Returns, Unwinds, HaltsIn}
use Rattle.soundness_values.specs.Frames.{Apart, Alike, written}
use Rattle.soundness_values.proofs.Apart.{located_apart}
use Rattle.soundness_values.proofs.Behind.{names_it}
use Rattle.soundness_values.proofs.Facts.{Each}
use Rattle.soundness_values.proofs.Fits.{Fits}
use Rattle.soundness_values.proofs.Frames.{ApartFrom, from_none, from_one, AllApart, none_apart, one_apart, located_from}
use Rattle.soundness_values.proofs.Known.{Target, StandsFor}
use Rattle.soundness_values.proofs.LadderEnds.{MayEnd}
use Rattle.soundness_values.proofs.Standings.{stored_located}

-- what the references among values name, each under the number of its parameter
abbrev pub target_if : Option Ty → ℕ → Datum → List Target
target_if (Some (Ty.Unique to)) local (Address a) = record { unique = true; local = local; address = a; to = to } ∷ []
target_if (Some (Ty.Shared to)) local (Address a) = record { unique = false; local = local; address = a; to = to } ∷ []
target_if ty local d = []

abbrev pub targets_of : ItemTable → ℕ → List TyId → List Datum → List Target
targets_of items local (id ∷ ids) (d ∷ ds) = target_if (type_at items id) local d ++ targets_of items (suc local) ids ds
targets_of items local ids ds = []

abbrev pub unique_if : Bool → Addr → List Addr → List Addr
unique_if true a rest = a ∷ rest
unique_if false a rest = rest

abbrev pub uniques_of : List Target → List Addr
uniques_of [] = []
uniques_of (t ∷ ts) = unique_if t.unique t.address (uniques_of ts)

pub no_target : (o : Option Ty) (local : ℕ) (d : Datum) → named_by o ≡ None → target_if o local d ≡ []
no_target (Some (Ty.Unique to)) local d e = absurd (let never : ⊥ = cc in never)
no_target (Some (Ty.Shared to)) local d e = absurd (let never : ⊥ = cc in never)
no_target None local d e = refl
no_target (Some other) local d e = refl

pub one_target : (unique : Bool) (to : TyId) (local : ℕ) (a : Addr) →
    target_if (Some (names_it unique to)) local (Address a)
    ≡ (record { unique = unique; local = local; address = a; to = to }) ∷ []
one_target true to local a = refl
one_target false to local a = refl

-- one of two that is `&mut` is apart from the other
abbrev pub AloneFrom : Target → List Target → Type 0
AloneFrom t rest = Each (λ (u : Target). (t.unique || u.unique) ≡ true → Apart t.address u.address
    × Apart u.address t.address) rest

abbrev pub AllAlone : List Target → Type 0
AllAlone [] = Unit {0}
AllAlone (t ∷ rest) = AloneFrom t rest × AllAlone rest

module _ (setting : Setting) where
  abbrev items : ItemTable
  items = setting.items

  abbrev pub AreWhole : List TyId → List Datum → Type 0
  AreWhole [] [] = Unit {0}
  AreWhole (id ∷ ids) (d ∷ ds) = Fits items (OfType id) is_present d × AreWhole ids ds
  AreWhole _ _ = ⊥

  -- what a call may be made with
  pub record MayRun (params : List TyId) (values : List Datum) (w : State) : Type 0 where
    pub whole : AreWhole params values
    pub stands : Each (λ t. StandsFor setting 0 t w) (targets_of items 1 params values)
    pub alone : AllAlone (targets_of items 1 params values)

  -- how it leaves the state
  pub record Leaves (targets : List Target) (w v : State) : Type 0 where
    pub news : List Datum
    pub many : length news ≡ length (uniques_of targets)
    pub frame : Alike v.activations (written (uniques_of targets) news w).activations
    pub stands : Each (λ t. StandsFor setting 0 t v) targets

  pub data LeftSo (targets : List Target) (result : TyId) (w : State) : Answer → Type 0 where
    returned : (value : Datum) (v : State) → Leaves targets w v → Fits items (OfType result) is_present value →
        LeftSo targets result w (Returns value v)
    unwound : (v : State) → Leaves targets w v → LeftSo targets result w (Unwinds v)
    halted : (halt : Halt) (v : State) → MayEnd halt → LeftSo targets result w (HaltsIn halt v)

  -- ---- what is `&mut` is apart from all else that is

  pub unique_from : (t : Target) (ts : List Target) → t.unique ≡ true → AloneFrom t ts →
      ApartFrom setting t.address (uniques_of ts)
  unique_from t [] u h = from_none
  unique_from t (x ∷ ts) u h = by x.unique refl (unique_from t ts u h.1)
    where
      by : (b : Bool) → x.unique ≡ b → ApartFrom setting t.address (uniques_of ts) →
          ApartFrom setting t.address (unique_if b x.address (uniques_of ts))
      by true e later = let both = h.0 (ap (λ c. c || x.unique) u) in
          from_one x.address (uniques_of ts) both.0 both.1 later
      by false e later = later

  pub all_unique_apart : (ts : List Target) → AllAlone ts → AllApart setting (uniques_of ts)
  all_unique_apart [] h = none_apart
  all_unique_apart (t ∷ ts) h = by t.unique refl (all_unique_apart ts h.1)
    where
      by : (b : Bool) → t.unique ≡ b → AllApart setting (uniques_of ts) →
          AllApart setting (unique_if b t.address (uniques_of ts))
      by true e later = one_apart t.address (uniques_of ts) (unique_from t ts e h.0) later
      by false e later = later

  -- ---- the values that came to what is `&mut`

  pub data News (w : State) : List Target → List Datum → Type 0 where
    no_news : (ds : List Datum) → News w [] ds
    shared_kept : (t : Target) (ts : List Target) (ds : List Datum) → t.unique ≡ false → News w ts ds →
        News w (t ∷ ts) ds
    unique_new : (t : Target) (ts : List Target) (d : Datum) (ds : List Datum) (s : Located) → t.unique ≡ true →
        located_at setting w t.address ≡ Some s → Fits items s.dynamic is_present d → News w ts ds →
        News w (t ∷ ts) (d ∷ ds)

  -- what stands there after another came to one that is apart
  each_below : (w : State) (t : Target) (d : Datum) (ts : List Target) → t.unique ≡ true → AloneFrom t ts →
      Each (λ u. StandsFor setting 0 u (stored_at t.address d w)) ts → Each (λ u. StandsFor setting 0 u w) ts
  each_below w t d [] e h k = tt
  each_below w t d (u ∷ ts) e h k = (
    record {
      standing = k.0.standing;
      stands = sym (located_apart setting w u.address t.address d (h.0 (ap (λ c. c || u.unique) e)).1) ∙ k.0.stands;
      of_type = k.0.of_type;
      by_impl = k.0.by_impl;
      whole = k.0.whole;
    },
    each_below w t d ts e h.1 k.1,
  )

  pub news_of : (w : State) (ts : List Target) (ds : List Datum) → AllAlone ts →
      Each (λ t. StandsFor setting 0 t w) ts → Each (λ t. StandsFor setting 0 t (written (uniques_of ts) ds w)) ts →
      length ds ≡ length (uniques_of ts) → News w ts ds
  news_of w [] ds a h k l = no_news ds
  news_of w (t ∷ ts) ds a h k l = by t.unique refl ds k l (λ more. news_of w ts more a.1 h.1)
    where
      by : (b : Bool) → t.unique ≡ b → (ds : List Datum) →
          Each (λ x. StandsFor setting 0 x (written (unique_if b t.address (uniques_of ts)) ds w)) (t ∷ ts) →
          length ds ≡ length (unique_if b t.address (uniques_of ts)) →
          ((more : List Datum) → Each (λ x. StandsFor setting 0 x (written (uniques_of ts) more w)) ts →
          length more ≡ length (uniques_of ts) → News w ts more) → News w (t ∷ ts) ds
      by false e ds k l later = shared_kept t ts ds e (later ds k.1 l)
      by true e [] k l later = absurd (let never : ⊥ = cc in never)
      by true e (d ∷ ds) k l later =
          let tail : State = written (uniques_of ts) ds w in
          let there : located_at setting tail t.address ≡ Some h.0.standing =
          located_from setting t.address (uniques_of ts) ds w (unique_from t ts e a.0) ∙ h.0.stands in
          let now : record (h.0.standing) { value = d } ≡ k.0.standing =
          some_same (sym (stored_located setting tail t.address h.0.standing d there) ∙ k.0.stands) in
          unique_new t ts d ds h.0.standing e h.0.stands
          (subst (λ (s : Located). Fits items s.dynamic is_present s.value) (sym now) k.0.whole)
          (later ds (each_below tail t d ts e a.0 k.1) (less l))
        where
          some_same : {x y : Located} → Some x ≡ Some y → x ≡ y
          some_same z = cc

          less : {x y : ℕ} → suc x ≡ suc y → x ≡ y
          less z = cc
