-- The law of calls, from the contract of calls: a call with values of its types, whose references may be passed
-- together, changes older activations where its `&mut` arguments name alone, and leaves whole all that is named.
use Rattle.std.proofs.Common.{◌≡◌, ◌≢◌, ◌⊎◌, inl, inr, ℕ, zero, suc, ◌||◌, Bool, true, false, List, [], ◌∷◌, ◌++◌, Option, Some, None, refl, ap, sym, ◌∙◌, subst}
use Rattle.std.specs.Prelude.{slice_get}
use Rattle.std.proofs.lemmas.Bool.{false≢true}
use Rattle.std.proofs.lemmas.Option.{none-some}
use Rattle.mir_ty.specs.declared.ty.Ty.{Ty}
use Rattle.mir_ty.specs.declared.ty.TyId.{TyId}
use Rattle.mir_ty.specs.ItemTable.{ItemTable, type_at}
use Rattle.store_model.specs.Values.Datum.{Datum, Address}
use Rattle.store_model.specs.Effects.{Halt, Aborted, OutOfTicks}
use Rattle.store_model.specs.Concrete.Location.{Setting, OfType}
use Rattle.store_model.specs.Concrete.State.{State, Activation, Answer}
use Rattle.soundness_values.specs.Frames.{Apart, Alike, written}
use Rattle.soundness_values.specs.Laws.{Names, Reference, reference, and_those, references, MayBePassed, ChangedAt, unchanged, changed, LeavesWhole, LeftBy, AreOf}
use Rattle.soundness_values.proofs.Contracts.{target_if, targets_of, unique_if, uniques_of, AllAlone, AreWhole, MayRun, Leaves, LeftSo, returned, unwound, halted}
use Rattle.soundness_values.proofs.Entering.{each_get, each_from}
use Rattle.soundness_values.proofs.Known.{Target, StandsFor}
use Rattle.soundness_values.proofs.LadderEnds.{MayEnd}
use Rattle.soundness_values.proofs.NamesApart.{apart_back}
use Rattle.soundness_values.proofs.Standings.{alike_itself, alike_after}
use Rattle.soundness_values.proofs.WholeValues.{fits_of, is_of}

-- a target is a reference, without its parameter
abbrev pub as_reference : Target → Reference
as_reference t = record { unique = t.unique; address = t.address; to = t.to }

-- the same references, one by one
pub data Same : List Reference → List Target → Type 0 where
  none_same : Same [] []
  one_same : (r : Reference) (t : Target) (refs : List Reference) (ts : List Target) → r ≡ as_reference t → Same refs ts
      →
      Same (r ∷ refs) (t ∷ ts)

same_one : (o : Option Ty) (l : ℕ) (d : Datum) (refs : List Reference) (ts : List Target) → Same refs ts →
    Same (and_those (reference o d) refs) (target_if o l d ++ ts)
same_one (Some (Ty.Unique to)) l (Address a) refs ts h = one_same _ _ refs ts refl h
same_one (Some (Ty.Shared to)) l (Address a) refs ts h = one_same _ _ refs ts refl h
same_one None l d refs ts h = h
same_one (Some (Ty.Unique to)) l other refs ts h = h
same_one (Some (Ty.Shared to)) l other refs ts h = h
same_one (Some other) l d refs ts h = h

pub same_references : (items : ItemTable) (l : ℕ) (ids : List TyId) (ds : List Datum) →
    Same (references items ids ds) (targets_of items l ids ds)
same_references items l [] ds = none_same
same_references items l (id ∷ ids) [] = none_same
same_references items l (id ∷ ids) (d ∷ ds) = same_one (type_at items id) l d (references items ids ds)
    (targets_of items (suc l) ids ds) (same_references items (suc l) ids ds)

-- a reference under a number, and its target
pub target_under : (refs : List Reference) (ts : List Target) (n : ℕ) (t : Target) → Same refs ts → slice_get ts n ≡ Some t
    →
    slice_get refs n ≡ Some (as_reference t)
target_under _ _ n t none_same e = absurd (none-some t e)
target_under _ _ zero t (one_same r u refs ts is h) e =
    let same : u ≡ t = cc in ap (λ (x : Reference). Some x) (is ∙ ap as_reference same)
target_under _ _ (suc n) t (one_same r u refs ts is h) e = target_under refs ts n t h e

pub reference_under : (refs : List Reference) (ts : List Target) (n : ℕ) (r : Reference) → Same refs ts →
    slice_get refs n ≡ Some r → (t : Target) × ((slice_get ts n ≡ Some t) × (r ≡ as_reference t))
reference_under _ _ n r none_same e = absurd (none-some r e)
reference_under _ _ zero r (one_same s u refs ts is h) e = let same : s ≡ r = cc in (u, (refl, sym same ∙ is))
reference_under _ _ (suc n) r (one_same s u refs ts is h) e = reference_under refs ts n r h e

module _ (setting : Setting) where
  abbrev items : ItemTable
  items = setting.items

  whole_of : (ids : List TyId) (ds : List Datum) → AreOf items ids ds → AreWhole setting ids ds
  whole_of [] [] h = tt
  whole_of [] (d ∷ ds) h = absurd h
  whole_of (id ∷ ids) [] h = absurd h
  whole_of (id ∷ ids) (d ∷ ds) h = (fits_of items d (OfType id) h.0, whole_of ids ds h.1)

  pub stands_by : (w : State) (t : Target) → Names setting w t.to t.address → StandsFor setting 0 t w
  stands_by w t n = record {
    standing = n.standing;
    stands = n.stands;
    of_type = n.of_type;
    by_impl = n.by_impl;
    whole = fits_of items n.standing.value n.standing.dynamic n.whole;
  }

  pub named_by_it : (w : State) (t : Target) → StandsFor setting 0 t w → Names setting w t.to t.address
  named_by_it w t s = record {
    standing = s.standing;
    stands = s.stands;
    of_type = s.of_type;
    by_impl = s.by_impl;
    whole = is_of items s.standing.value s.standing.dynamic s.whole;
  }

  -- from pairs to all that come after
  alone_of : (ts : List Target) →
      ((n m : ℕ) (t u : Target) → n ≢ m → slice_get ts n ≡ Some t → slice_get ts m ≡ Some u →
      t.unique ≡ true → Apart t.address u.address) → AllAlone ts
  alone_of [] f = tt
  alone_of (t ∷ ts) f = (
    each_from (λ (u : Target). (t.unique || u.unique) ≡ true → Apart t.address u.address × Apart u.address t.address) ts
        (λ m u e h. either m u e h t.unique refl u.unique refl),
    alone_of ts (λ n m t u d e k h. f (suc n) (suc m) t u (λ same. d (less same)) e k h),
  )
    where
      less : {a b : ℕ} → suc a ≡ suc b → a ≡ b
      less e = cc

      differ : (m : ℕ) → 0 ≢ suc m
      differ m e = absurd (let never : ⊥ = cc in never)

      either : (m : ℕ) (u : Target) → slice_get ts m ≡ Some u → (t.unique || u.unique) ≡ true → (a : Bool) →
          t.unique ≡ a → (b : Bool) → u.unique ≡ b → Apart t.address u.address × Apart u.address t.address
      either m u e h true x b y = let k = f 0 (suc m) t u (differ m) refl e x in (k, apart_back t.address u.address k)
      either m u e h false x true y =
          let k = f (suc m) 0 u t (λ same. differ m (sym same)) e refl y in (apart_back u.address t.address k, k)
      either m u e h false x false y = absurd (false≢true (sym (ap (λ c. c || u.unique) x ∙ y) ∙ h))

  module _ (ids : List TyId) (ds : List Datum) (w : State) where
    abbrev refs : List Reference
    refs = references items ids ds

    abbrev ts : List Target
    ts = targets_of items 1 ids ds

    -- a call that may be made by the law may be made by the contract
    pub may_run_by : AreOf items ids ds → MayBePassed setting w (references items ids ds) → MayRun setting ids ds w
    may_run_by whole may = record {
      whole = whole_of ids ds whole;
      stands = each_from (λ t. StandsFor setting 0 t w) ts
          (λ n t e. stands_by w t (may.named n (as_reference t)
          (target_under refs ts n t (same_references items 1 ids ds)
          e)));
      alone = alone_of ts (λ n m t u d e k h. may.alone n m (as_reference t) (as_reference u) d
          (target_under refs ts n t (same_references items 1 ids ds) e)
          (target_under refs ts m u (same_references items 1 ids ds) k) h);
    }

    -- what was written came to `&mut` references, one after another
    changes_by : (all : List Target) (news : List Datum) (start : ℕ) →
        ((n : ℕ) (t : Target) → slice_get all n ≡ Some t →
        (m : ℕ) × (slice_get refs m ≡ Some (as_reference t))) →
        ChangedAt refs w.activations (written (uniques_of all) news w).activations
    changes_by [] news start f = unchanged w.activations w.activations (alike_itself w.activations)
    changes_by (t ∷ all) news start f = by t.unique refl news
        (λ more. changes_by all more start (λ n. f (suc n)))
      where
        by : (b : Bool) → t.unique ≡ b → (news : List Datum) →
            ((more : List Datum) → ChangedAt refs w.activations (written (uniques_of all) more w).activations) →
            ChangedAt refs w.activations (written (unique_if b t.address (uniques_of all)) news w).activations
        by false u news later = later news
        by true u [] later = unchanged w.activations w.activations (alike_itself w.activations)
        by true u (d ∷ more) later =
            let r = f 0 t refl in
            changed (written (uniques_of all) more w) w.activations _ r.0 (as_reference t) d (later more) r.1 u
            (alike_itself _)

    leaves_by : (v : State) → Leaves setting (targets_of items 1 ids ds) w v →
        LeavesWhole setting w v (references items ids ds)
    leaves_by v l = record {
      changes = at_end l.frame (changes_by ts l.news 0
          (λ n t e. (n, target_under refs ts n t (same_references items 1 ids ds) e)));
      whole = λ n r e.
          let t = reference_under refs ts n r (same_references items 1 ids ds) e in
          subst (λ (x : Reference). Names setting v x.to x.address) (sym t.1.1)
          (named_by_it v t.0 (each_get (λ x. StandsFor setting 0 x v) ts n t.0 t.1.0 l.stands));
    }
      where
        at_end : {acts : List Activation} → Alike v.activations acts → ChangedAt refs w.activations acts →
            ChangedAt refs w.activations v.activations
        at_end j (unchanged before after k) = unchanged before v.activations (alike_after j before k)
        at_end j (changed x before after n r d c e u k) = changed x before v.activations n r d c e u
            (alike_after j _ k)

    pub left_by : (result : TyId) (answer : Answer) → LeftSo setting (targets_of items 1 ids ds) result w answer →
        LeftBy setting w (references items ids ds) result answer
    left_by result _ (returned value v l fit) = (leaves_by v l, is_of items value (OfType result) fit)
    left_by result _ (unwound v l) = leaves_by v l
    left_by result _ (halted halt v h) = by halt h
      where
        by : (halt : Halt) → MayEnd halt → (halt ≡ Aborted) ⊎ (halt ≡ OutOfTicks)
        by Aborted h = inl refl
        by OutOfTicks h = inr refl
        by other h = absurd h
