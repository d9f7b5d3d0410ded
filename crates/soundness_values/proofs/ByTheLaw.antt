-- From the law of calls to the contract of calls: what obeys the law keeps to the contract. Values that came to the
-- places of `&mut` arguments, one after the other, are one value for each of them.
use Rattle.std.proofs.Common.{◌≡◌, ◌≢◌, inl, inr, ℕ, zero, suc, ◌<◌, ◌||◌, Bool, true, false, List, [], ◌∷◌, length, Some, refl, ap, sym, ◌∙◌, subst}
use Rattle.std.specs.Prelude.{slice_get}
use Rattle.std.proofs.lemmas.Bool.{false≢true}
use Rattle.std.proofs.lemmas.Option.{none-some, slice_get_within}
use Rattle.mir_ty.specs.declared.ty.TyId.{TyId}
use Rattle.mir_ty.specs.ItemTable.{ItemTable}
use Rattle.store_model.specs.declared.address.Addr.{Addr}
use Rattle.store_model.specs.Values.Datum.{Datum}
use Rattle.store_model.specs.Effects.{Aborted, OutOfTicks}
use Rattle.store_model.specs.Concrete.Location.{Setting, OfType, stored_at}
use Rattle.store_model.specs.Concrete.State.{State, Activation, Answer, Returns, Unwinds, HaltsIn}
use Rattle.soundness_values.specs.Frames.{Apart, Alike, written}
use Rattle.soundness_values.specs.Laws.{Names, Reference, references, MayBePassed, ChangedAt, unchanged, changed, LeavesWhole, LeftBy, AreOf}
use Rattle.soundness_values.proofs.CallsLaw.{as_reference, same_references, target_under, reference_under, stands_by, named_by_it}
use Rattle.soundness_values.proofs.ClaimParts.{found_below}
use Rattle.soundness_values.proofs.Contracts.{targets_of, unique_if, uniques_of, AllAlone, AreWhole, MayRun, Leaves, LeftSo, returned, unwound, halted, all_unique_apart}
use Rattle.soundness_values.proofs.Entering.{each_get, each_from, stood_of}
use Rattle.soundness_values.proofs.Frames.{AllApart, one_apart, located_from, with_value, with_value_length, written_changed}
use Rattle.soundness_values.proofs.Known.{Target, StandsFor}
use Rattle.soundness_values.proofs.Standings.{alike_itself, alike_after, stored_alike, stored_same}
use Rattle.soundness_values.proofs.Starts.{Standing, none_stands, one_stands}
use Rattle.soundness_values.proofs.WholeValues.{fits_of, is_of}

or_left : (a b : Bool) → a ≡ true → (a || b) ≡ true
or_left true b h = refl
or_left false b h = absurd (false≢true h)

or_right : (a b : Bool) → b ≡ true → (a || b) ≡ true
or_right true b h = refl
or_right false b h = h

-- what is `&mut` is apart from each other that is named
alone_of : (ts : List Target) → AllAlone ts → (n m : ℕ) (t u : Target) → n ≢ m → slice_get ts n ≡ Some t →
    slice_get ts m ≡ Some u → t.unique ≡ true → Apart t.address u.address
alone_of [] a n m t u d e k h = absurd (none-some t e)
alone_of (x ∷ ts) a zero zero t u d e k h = absurd (d refl)
alone_of (x ∷ ts) a zero (suc m) t u d e k h =
    let same : x ≡ t = cc in
    let both = each_get (λ (y : Target). (x.unique || y.unique) ≡ true → Apart x.address y.address
    × Apart y.address x.address) ts m u k a.0 in
    subst (λ (y : Target). Apart y.address u.address) same
    (both (or_left x.unique u.unique (ap (λ (y : Target). y.unique) same ∙ h))).0
alone_of (x ∷ ts) a (suc n) zero t u d e k h =
    let same : x ≡ u = cc in
    let both = each_get (λ (y : Target). (x.unique || y.unique) ≡ true → Apart x.address y.address
    × Apart y.address x.address) ts n t e a.0 in
    subst (λ (y : Target). Apart t.address y.address) same (both (or_right x.unique t.unique h)).1
alone_of (x ∷ ts) a (suc n) (suc m) t u d e k h = alone_of ts a.1 n m t u (λ same. d (ap suc same)) e k h

-- where the place of a `&mut` target stands among those of all
unique_at : (ts : List Target) (n : ℕ) (t : Target) → slice_get ts n ≡ Some t → t.unique ≡ true →
    (m : ℕ) × (slice_get (uniques_of ts) m ≡ Some t.address)
unique_at [] n t e u = absurd (none-some t e)
unique_at (x ∷ ts) zero t e u =
    let same : x ≡ t = cc in (
      0,
      ap (λ b. slice_get (unique_if b x.address (uniques_of ts)) 0) (ap (λ (y : Target). y.unique) same ∙ u)
          ∙ ap (λ (y : Target). Some y.address) same,
    )
unique_at (x ∷ ts) (suc n) t e u = by x.unique (unique_at ts n t e u)
  where
    by : (b : Bool) → (m : ℕ) × (slice_get (uniques_of ts) m ≡ Some t.address) →
        (m : ℕ) × (slice_get (unique_if b x.address (uniques_of ts)) m ≡ Some t.address)
    by true later = (suc later.0, later.1)
    by false later = later

module _ (setting : Setting) where
  abbrev items : ItemTable
  items = setting.items

  as_many : {w : State} {addresses : List Addr} {values : List Datum} → Standing setting w addresses values →
      length values ≡ length addresses
  as_many none_stands = refl
  as_many (one_stands a rest values s e h) = ap suc (as_many h)

  written_same : (w : State) (addresses : List Addr) (values : List Datum) → AllApart setting addresses →
      Standing setting w addresses values → Alike w.activations (written addresses values w).activations
  written_same w [] values _ h = alike_itself w.activations
  written_same w (a ∷ rest) values (one_apart _ _ from apart) (one_stands _ _ more s e h) =
      alike_after (written_same w rest more apart h) _
      (stored_same setting (written rest more w) a s (located_from setting a rest more w from ∙ e))

  are_of : (ids : List TyId) (ds : List Datum) → AreWhole setting ids ds → AreOf items ids ds
  are_of [] [] h = tt
  are_of [] (d ∷ ds) h = absurd h
  are_of (id ∷ ids) [] h = absurd h
  are_of (id ∷ ids) (d ∷ ds) h = (is_of items d (OfType id) h.0, are_of ids ds h.1)

  module _ (ids : List TyId) (ds : List Datum) (w : State) (may : MayRun setting ids ds w) where
    abbrev refs : List Reference
    refs = references items ids ds

    abbrev ts : List Target
    ts = targets_of items 1 ids ds

    -- what the contract allows the law allows
    pub allowed : AreOf items ids ds × MayBePassed setting w (references items ids ds)
    allowed = (
      are_of ids ds may.whole,
      record {
        named = λ n r e.
            let t = reference_under refs ts n r (same_references items 1 ids ds) e in
            subst (λ (x : Reference). Names setting w x.to x.address) (sym t.1.1)
            (named_by_it setting w t.0 (each_get (λ x. StandsFor setting 0 x w) ts n t.0 t.1.0 may.stands));
        alone = λ n m r s d e k u.
            let t = reference_under refs ts n r (same_references items 1 ids ds) e in
            let v = reference_under refs ts m s (same_references items 1 ids ds) k in
            subst (λ (x : Reference). Apart x.address s.address) (sym t.1.1)
            (subst (λ (y : Reference). Apart t.0.address y.address) (sym v.1.1)
            (alone_of ts may.alone n m t.0 v.0 d t.1.0 v.1.0 (sym (ap (λ (x : Reference). x.unique) t.1.1) ∙ u)));
      },
    )

    -- one value for each `&mut` argument
    record News (acts : List Activation) : Type 0 where
      pub news : List Datum
      pub many : length news ≡ length (uniques_of ts)
      pub frame : Alike acts (written (uniques_of ts) news w).activations

    news_of : (before after : List Activation) → ChangedAt refs before after → before ≡ w.activations → News after
    news_of _ _ (unchanged before after alike) e =
        let s = stood_of setting w ts may.stands in
        record {
          news = s.values;
          many = as_many s.standing;
          frame = alike_after alike _ (subst (λ l. Alike l (written (uniques_of ts) s.values w).activations) (sym e)
              (written_same w (uniques_of ts) s.values (all_unique_apart setting ts may.alone) s.standing));
        }
    news_of _ _ (changed u before after n r d rest at unique alike) e =
        let so_far = news_of before u.activations rest e in
        let t = reference_under refs ts n r (same_references items 1 ids ds) at in
        let m = unique_at ts n t.0 t.1.0 (sym (ap (λ (x : Reference). x.unique) t.1.1) ∙ unique) in
        let stands = each_get (λ x. StandsFor setting 0 x w) ts n t.0 t.1.0 may.stands in
        let below : m.0 < length so_far.news =
        subst (λ l. m.0 < l) (sym so_far.many) (slice_get_within (uniques_of ts) m.0 t.0.address m.1) in
        let old = found_below so_far.news m.0 below in
        record {
          news = with_value setting m.0 d so_far.news;
          many = with_value_length setting m.0 d so_far.news ∙ so_far.many;
          frame = alike_after alike _ (alike_after
              (stored_alike setting u (written (uniques_of ts) so_far.news w) r.address d so_far.frame) _
              (subst (λ a. Alike (stored_at a d (written (uniques_of ts) so_far.news w)).activations
              (written (uniques_of ts) (with_value setting m.0 d so_far.news) w).activations)
              (sym (ap (λ (x : Reference). x.address) t.1.1))
              (written_changed setting (uniques_of ts) m.0 so_far.news w t.0.address stands.standing old.0 d
              (all_unique_apart setting ts may.alone) m.1 old.1 stands.stands)));
        }

    leaves_of : (v : State) → LeavesWhole setting w v (references items ids ds) →
        Leaves setting (targets_of items 1 ids ds) w v
    leaves_of v l =
        let n = news_of w.activations v.activations l.changes refl in
        record {
          news = n.news;
          many = n.many;
          frame = n.frame;
          stands = each_from (λ t. StandsFor setting 0 t v) ts (λ n t e. stands_by setting v t (l.whole n (as_reference t)
              (target_under refs ts n t (same_references items 1 ids ds) e)));
        }

    -- what is left by the law is left by the contract
    pub left_so : (result : TyId) (answer : Answer) → LeftBy setting w (references items ids ds) result answer →
        LeftSo setting (targets_of items 1 ids ds) result w answer
    left_so result (Returns value v) h = returned value v (leaves_of v h.0) (fits_of items value (OfType result) h.1)
    left_so result (Unwinds v) h = unwound v (leaves_of v h)
    left_so result (HaltsIn halt v) (inl e) = subst (λ x. LeftSo setting ts result w (HaltsIn x v)) (sym e)
        (halted Aborted v tt)
    left_so result (HaltsIn halt v) (inr e) = subst (λ x. LeftSo setting ts result w (HaltsIn x v)) (sym e)
        (halted OutOfTicks v tt)
