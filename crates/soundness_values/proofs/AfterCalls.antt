-- A call in a checked run: what its arguments name may be passed, and what is known after it, by the contract of calls.
use Rattle.std.proofs.Common.{◌≡◌, ◌≢◌, ℕ, suc, ◌==◌, ◌&&◌, ◌||◌, not, Bool, true, false, List, [], ◌∷◌, ◌++◌, length, Option, Some, None, is_some, refl, ap, sym, ◌∙◌, subst}
use Rattle.std.specs.Prelude.{slice_get, option_and_then}
use Rattle.std.specs.Option.{option_map_or}
use Rattle.std.proofs.lemmas.Bool.{false≢true}
use Rattle.std.proofs.lemmas.Bool.Decides.{Decides-eqb}
use Rattle.mir_ty.specs.declared.ty.Ty.{Ty}
use Rattle.mir_ty.specs.declared.ty.TyId.{TyId}
use Rattle.mir_ty.specs.ItemTable.{ItemTable, type_at}
use Rattle.store_model.specs.declared.address.Addr.{Addr}
use Rattle.store_model.specs.Values.Datum.{Datum, Address}
use Rattle.store_model.specs.Abstract.Effects.{presence, may_use, watched_at}
use Rattle.store_model.specs.Abstract.Presence.{Presence, is_present}
use Rattle.store_model.specs.Places.Place.{Step, Place, is_reference}
use Rattle.store_model.specs.Places.TypeForms.{same_id}
use Rattle.store_model.specs.Concrete.Location.{Setting, OfType, is_of_type, Located, located_at, named_by, stored_at}
use Rattle.store_model.specs.Concrete.State.{State, Cells, cell}
use Rattle.soundness_values.specs.Frames.{Apart, Alike, written}
use Rattle.soundness_values.proofs.Behind.{names_it}
use Rattle.soundness_values.proofs.Facts.{Naming, Facts, Each, takes_index, without}
use Rattle.soundness_values.proofs.Fits.{Fits}
use Rattle.soundness_values.proofs.FoundAlike.{of_found}
use Rattle.soundness_values.proofs.Frames.{located_from}
use Rattle.soundness_values.proofs.Known.{Target, StandsFor}
use Rattle.soundness_values.proofs.Reached.{reached_stands}
use Rattle.soundness_values.proofs.Running.{sure_place, Passed, Runs}
use Rattle.soundness_values.proofs.Reaching.{Stands, Used}
use Rattle.soundness_values.proofs.Changing.{runs_without, known_held}
use Rattle.soundness_values.proofs.Checks.{id_of, may_change, overlap, are_apart, if_so, without_if, names_well, apart_from, all_apart, after_naming, after_namings}
use Rattle.soundness_values.proofs.Taking.{first, second, not_so}
use Rattle.soundness_values.proofs.Acting.{same_ids}
use Rattle.soundness_values.proofs.NamesApart.{apart_back, names_apart}
use Rattle.soundness_values.proofs.Passing.{NamesAt, own_names, behind_names}
use Rattle.soundness_values.proofs.Arguments.{Args, no_arg, a_value, a_name, names_still}
use Rattle.soundness_values.proofs.Contracts.{targets_of, target_if, unique_if, uniques_of, no_target, one_target, AloneFrom, AllAlone, AreWhole, News, no_news, shared_kept, unique_new, all_unique_apart, unique_from}
use Rattle.soundness_values.proofs.Written.{after_without, overlap_back, Clear, sure_after, at_place, named_address, Stored, name_stored}

three : (a b c : Bool) → (a && b && c) ≡ true → (a ≡ true) × ((b ≡ true) × (c ≡ true))
three true true true h = (refl, (refl, refl))
three false b c h = absurd (false≢true h)
three true false c h = absurd (false≢true h)
three true true false h = absurd (false≢true h)

so_is : (unique other : Bool) → if_so unique other ≡ true → other ≡ unique
so_is true other h = h
so_is false true h = absurd (false≢true h)
so_is false false h = refl

or_then : (a b : Bool) → (not a || b) ≡ true → a ≡ true → b ≡ true
or_then true b h k = h
or_then false b h k = absurd (false≢true k)

is_ref : (unique : Bool) (to : TyId) → is_reference (Some (names_it unique to)) ≡ true
is_ref true to = refl
is_ref false to = refl

module _ (setting : Setting) (number : ℕ) (targets : List Target) (uniques : List Addr) (base : State)
    (is_target : ℕ → Bool) (passed : Passed setting number targets uniques base is_target) where
  abbrev items : ItemTable
  items = setting.items

  abbrev local_ty : ℕ → Option TyId
  local_ty key = setting.local_ty number key

  abbrev R : State → List (ℕ × Presence) → Facts → Type 0
  R = Runs setting number targets uniques base is_target

  abbrev S : Facts → Place → Bool
  S = sure_place items local_ty is_target

  abbrev Names : ℕ → Cells → Place → Datum → Type 0
  Names = NamesAt setting number targets uniques base is_target passed

  abbrev ArgsAre : (last : Facts) (start : List (ℕ × Presence)) (depth : ℕ) (held : Cells) → List TyId → List Naming →
      List Datum → Type 0
  ArgsAre = Args setting number targets uniques base is_target passed

  abbrev after_all : List Naming → Facts → Facts
  after_all = after_namings items local_ty is_target

  abbrev apart_all : List Naming → Bool
  apart_all = all_apart items local_ty is_target

  abbrev apart_one : Naming → List Naming → Bool
  apart_one = apart_from items local_ty is_target

  -- the parts of the test of a name
  record Well (last : Facts) (start : List (ℕ × Presence)) (unique : Bool) (to : TyId) (n : Naming) : Type 0 where
    pub same_kind : n.unique ≡ unique
    pub of_type : option_map_or (same_id to) (id_of items local_ty is_target n.place) false ≡ true
    pub sure : S last n.place ≡ true
    pub changes : unique ≡ true → may_change items local_ty is_target n.place ≡ true
    pub uses : may_use (watched_at items local_ty (record { node = 0; place = n.place }))
        (presence n.place.local start) ≡ true

  well : (last : Facts) (start : List (ℕ × Presence)) (unique : Bool) (to : TyId) (n : Naming) →
      names_well items local_ty is_target last start unique to n ≡ true → Well last start unique to n
  well last start unique to n h =
      let p = three (if_so unique n.unique && option_map_or (same_id to) (id_of items local_ty is_target n.place) false)
      (S last n.place && (not unique || may_change items local_ty is_target n.place)) _ h in
      record {
        same_kind = so_is unique n.unique (first (if_so unique n.unique) _ p.0);
        of_type = second (if_so unique n.unique) _ p.0;
        sure = first (S last n.place) _ p.1.0;
        changes = λ k. or_then unique _ (second (S last n.place) _ p.1.0) k;
        uses = p.1.1;
      }

  address_there : (depth : ℕ) (held : Cells) (place : Place) (d : Datum) → Names depth held place d →
      (a : Addr) × (d ≡ Address a)
  address_there depth held place d (own_names o e) = (_, e)
  address_there depth held place d (behind_names n t at same steps is e) = (_, e)

  apart_tail : (more names : List Naming) → apart_all (more ++ names) ≡ true → apart_all names ≡ true
  apart_tail [] names h = h
  apart_tail (m ∷ more) names h = apart_tail more names (second (apart_one m (more ++ names)) _ h)

  apart_one_tail : (n : Naming) (more names : List Naming) → apart_one n (more ++ names) ≡ true →
      apart_one n names ≡ true
  apart_one_tail n [] names h = h
  apart_one_tail n (m ∷ more) names h = apart_one_tail n more names
      (second (not (n.unique || m.unique) || are_apart n.place m.place) _ h)

  each_back : {A : Type 0} (holds : A → Type 0) (a b : List A) → Each holds (a ++ b) → Each holds b
  each_back holds [] b h = h
  each_back holds (x ∷ a) b h = each_back holds a b h.1

  -- where one of two may be changed they do not overlap, and neither is an index on the way to the other
  apart_so : (n m : Naming) → (not (n.unique || m.unique) || are_apart n.place m.place) ≡ true →
      (n.unique || m.unique) ≡ true → (overlap n.place m.place ≡ false)
      × ((takes_index n.place.local m.place.steps ≡ false) × (takes_index m.place.local n.place.steps ≡ false))
  apart_so n m h k =
      let a = or_then (n.unique || m.unique) (are_apart n.place m.place) h k in
      let rest = second (not (overlap n.place m.place)) _ a in (
        not_so (overlap n.place m.place) (first (not (overlap n.place m.place)) _ a),
        (
          not_so (takes_index n.place.local m.place.steps)
              (first (not (takes_index n.place.local m.place.steps)) _ rest),
          not_so (takes_index m.place.local n.place.steps)
              (second (not (takes_index n.place.local m.place.steps)) _ rest),
        ),
      )

  clear_of : (n : Naming) (names : List Naming) → apart_one n names ≡ true → Clear setting number targets uniques base
      is_target passed n.place names
  clear_of n [] h = tt
  clear_of n (m ∷ names) h = (
    (λ k.
        let a = apart_so n m (first (not (n.unique || m.unique) || are_apart n.place m.place) _ h)
        (either n.unique m.unique
        k) in (overlap_back setting number targets uniques base is_target passed n.place m.place a.0, a.1.1)),
    clear_of n names (second (not (n.unique || m.unique) || are_apart n.place m.place) _ h),
  )
    where
      either : (p q : Bool) → q ≡ true → (p || q) ≡ true
      either true q z = refl
      either false q z = z

  module _ (v0 : State) (cells : List (ℕ × Presence)) (last : Facts) (r0 : R v0 cells last)
      (start : List (ℕ × Presence)) where
    abbrev depth0 : ℕ
    depth0 = length r0.known.older

    abbrev held0 : Cells
    held0 = r0.known.held

    abbrev Here : List TyId → List Naming → List Datum → Type 0
    Here = ArgsAre last start depth0 held0

    -- what is named is present as it was
    abbrev Present : List Naming → Type 0
    Present names = Each (λ (n : Naming). presence n.place.local cells ≡ presence n.place.local start) names

    uses_now : (n : Naming) (unique : Bool) (to : TyId) → Well last start unique to n →
        presence n.place.local cells ≡ presence n.place.local start →
        may_use (watched_at items local_ty (record { node = 0; place = n.place })) (presence n.place.local cells) ≡ true
    uses_now n unique to k p = ap (may_use (watched_at items local_ty (record { node = 0; place = n.place }))) p ∙
        k.uses

    -- ---- what may be passed

    pub are_whole : (ids : List TyId) (names : List Naming) (ds : List Datum) → Here ids names ds →
        AreWhole setting ids ds
    are_whole ids names ds no_arg = tt
    are_whole ids names ds (a_value id more_ids more rest d more_ds none fit later) =
        (fit, are_whole more_ids rest more_ds later)
    are_whole ids names ds (a_name id more_ids unique to n rest d more_ds ty test at later) =
        let a = address_there depth0 held0 n.place d at in (
          subst (Fits items (OfType id) is_present) (sym a.1) (refl, ap is_reference ty ∙ is_ref unique to),
          are_whole more_ids rest more_ds later,
        )

    -- the target of a name
    target_is : (l : ℕ) (id : TyId) (unique : Bool) (to : TyId) (d : Datum) (a : Addr) → d ≡ Address a →
        type_at items id ≡ Some (names_it unique to) → (rest : List Target) → target_if (type_at items id) l d ++ rest
        ≡ (record { unique = unique; local = l; address = a; to = to }) ∷ rest
    target_is l id unique to d a e ty rest = ap (λ x. target_if (type_at items id) l x ++ rest) e
        ∙ ap (λ o. target_if o l (Address a) ++ rest) ty ∙ ap (λ x. x ++ rest) (one_target unique to l a)

    value_has_none : (l : ℕ) (id : TyId) (d : Datum) (rest : List Target) → named_by (type_at items id) ≡ None →
        target_if (type_at items id) l d ++ rest ≡ rest
    value_has_none l id d rest none = ap (λ x. x ++ rest) (no_target (type_at items id) l d none)

    stands_for : (l : ℕ) (unique : Bool) (to : TyId) (n : Naming) (a : Addr) → Well last start unique to n →
        presence n.place.local cells ≡ presence n.place.local start → Names depth0 held0 n.place (Address a) →
        StandsFor setting 0 (record { unique = unique; local = l; address = a; to = to }) v0
    stands_for l unique to n a k p names =
        let u = at_place setting number targets uniques base is_target passed v0 cells last r0 n.place k.sure
        (uses_now n unique to k p) in
        let there = named_address setting number targets uniques base is_target passed v0 cells last r0 n.place k.sure
        (uses_now n unique to k p) a names in
        let end : to ≡ u.at.end = same_ids setting number targets uniques base is_target passed to u.at.end
        (subst (λ o. option_map_or (same_id to) o false ≡ true) u.at.end_is k.of_type) in
        let found = of_found items u.at.end u.at.standing.dynamic u.at.as_end in
        record {
          standing = u.at.standing;
          stands = ap (located_at setting v0) (sym there)
              ∙ reached_stands setting v0 n.place u.at.standing u.at.reached;
          of_type = subst (λ i. is_of_type items i u.at.standing.dynamic ≡ true) (sym end) found.0;
          by_impl = found.1;
          whole = u.fits;
        }

    pub all_stand : (l : ℕ) (ids : List TyId) (names : List Naming) (ds : List Datum) → Here ids names ds →
        Present names → Each (λ t. StandsFor setting 0 t v0) (targets_of items l ids ds)
    all_stand l ids names ds no_arg p = tt
    all_stand l ids names ds (a_value id more_ids more rest d more_ds none fit later) p =
        subst (Each (λ t. StandsFor setting 0 t v0))
        (sym (value_has_none l id d (targets_of items (suc l) more_ids more_ds) none))
        (all_stand (suc l) more_ids rest more_ds later (each_back _ more rest p))
    all_stand l ids names ds (a_name id more_ids unique to n rest d more_ds ty test at later) p =
        let a = address_there depth0 held0 n.place d at in
        subst (Each (λ t. StandsFor setting 0 t v0))
        (sym (target_is l id unique to d a.0 a.1 ty (targets_of items (suc l) more_ids more_ds))) (
          stands_for l unique to n a.0 (well last start unique to n test) p.0
              (subst (Names depth0 held0 n.place) a.1 at),
          all_stand (suc l) more_ids rest more_ds later p.1,
        )

    alone_from : (l k : ℕ) (unique : Bool) (to : TyId) (n : Naming) (a : Addr) → Well last start unique to n →
        Names depth0 held0 n.place (Address a) → (ids : List TyId) (names : List Naming) (ds : List Datum) →
        Here ids names ds → apart_one n names ≡ true →
        AloneFrom (record { unique = unique; local = k; address = a; to = to }) (targets_of items l ids ds)
    alone_from l k unique to n a w at ids names ds no_arg h = tt
    alone_from l k unique to n a w at ids names ds (a_value id more_ids more rest d more_ds none fit later) h =
        subst (AloneFrom (record { unique = unique; local = k; address = a; to = to }))
        (sym (value_has_none l id d (targets_of items (suc l) more_ids more_ds) none))
        (alone_from (suc l) k unique to n a w at more_ids rest more_ds later (apart_one_tail n more rest h))
    alone_from l k unique to n a w at ids names ds (a_name id more_ids other to' m rest d more_ds ty test named later) h
        =
        let b = address_there depth0 held0 m.place d named in
        subst (AloneFrom (record { unique = unique; local = k; address = a; to = to }))
        (sym (target_is l id other to' d b.0 b.1 ty (targets_of items (suc l) more_ids more_ds))) (
          (λ z. both (well last start other to' m test) b.0 (subst (Names depth0 held0 m.place) b.1 named) z),
          alone_from (suc l) k unique to n a w at more_ids rest more_ds later
              (second (not (n.unique || m.unique) || are_apart n.place m.place) _ h),
        )
      where
        both : Well last start other to' m → (b : Addr) → Names depth0 held0 m.place (Address b) →
            (unique || other) ≡ true → Apart a b × Apart b a
        both k b there z = by unique refl other refl z
          where
            apart_now : (overlap n.place m.place ≡ false)
                × ((takes_index n.place.local m.place.steps ≡ false) ×
                (takes_index m.place.local n.place.steps ≡ false))
            apart_now = apart_so n m (first (not (n.unique || m.unique) || are_apart n.place m.place) _ h)
                (ap (λ x. x || m.unique) w.same_kind ∙ ap (λ x. unique || x) k.same_kind ∙ z)

            by : (p : Bool) → unique ≡ p → (q : Bool) → other ≡ q → (p || q) ≡ true → Apart a b × Apart b a
            by true e q f z =
                let x = names_apart setting number targets uniques base is_target passed depth0 held0
                r0.known.is_older n.place m.place a b apart_now.0 (w.changes e) at there in
                (x, apart_back a b x)
            by false e true f z =
                let x = names_apart setting number targets uniques base is_target passed depth0 held0
                r0.known.is_older m.place n.place b a
                (overlap_back setting number targets uniques base is_target passed n.place m.place apart_now.0)
                (k.changes f) there at in
                (apart_back b a x, x)
            by false e false f z = absurd (false≢true z)

    pub all_alone : (l : ℕ) (ids : List TyId) (names : List Naming) (ds : List Datum) → Here ids names ds →
        apart_all names ≡ true → AllAlone (targets_of items l ids ds)
    all_alone l ids names ds no_arg h = tt
    all_alone l ids names ds (a_value id more_ids more rest d more_ds none fit later) h =
        subst AllAlone (sym (value_has_none l id d (targets_of items (suc l) more_ids more_ds) none))
        (all_alone (suc l) more_ids rest more_ds later (apart_tail more rest h))
    all_alone l ids names ds (a_name id more_ids unique to n rest d more_ds ty test at later) h =
        let a = address_there depth0 held0 n.place d at in
        subst AllAlone (sym (target_is l id unique to d a.0 a.1 ty (targets_of items (suc l) more_ids more_ds))) (
          alone_from (suc l) l unique to n a.0 (well last start unique to n test)
              (subst (Names depth0 held0 n.place) a.1
              at) more_ids rest more_ds later (first (apart_one n rest) _ h),
          all_alone (suc l) more_ids rest more_ds later (second (apart_one n rest) _ h),
        )

    -- ---- what is known after the call

    abbrev Unchanged : ℕ → List Naming → Type 0
    Unchanged key names = Each (λ (m : Naming). m.unique ≡ true → (m.place.local == key) ≡ false) names

    pub record After (names : List Naming) (x : State) : Type 0 where
      pub now : R x cells (after_all names last)
      pub held_same : (key : ℕ) → Unchanged key names → cell key now.known.held ≡ cell key held0
      pub deep : length now.known.older ≡ depth0

    -- fewer facts are known of the same state
    after_fewer : (names more : List Naming) (x : State) → After names x → R x cells (after_all more last) →
        ((key : ℕ) → Unchanged key more → Unchanged key names) → After more x
    after_fewer names more x a r f =
        let same = known_held setting number targets uniques base is_target passed x cells r.known a.now.known.held
        a.now.known.older a.now.known.is_there in
        record {
          now = r;
          held_same = λ key h. ap (cell key) same.0 ∙ a.held_same key (f key h);
          deep = ap length same.1 ∙ a.deep;
        }

    one_name : (m : Naming) (names : List Naming) (x : State) → After names x → After (m ∷ names) x
    one_name m names x a = after_fewer names (m ∷ names) x a (by m.unique) (λ key h. h.1)
      where
        by : (b : Bool) → R x cells (after_all names (without_if b m.place last))
        by true = subst (R x cells)
            (sym (after_without setting number targets uniques base is_target passed names m.place last))
            (runs_without setting number targets uniques base is_target passed m.place x cells (after_all names last)
            a.now)
        by false = a.now

    more_names : (more names : List Naming) (x : State) → After names x → After (more ++ names) x
    more_names [] names x a = a
    more_names (m ∷ more) names x a = one_name m (more ++ names) x (more_names more names x a)

    -- what is an index on the way to a place is not changed where the place is apart
    no_index_changed : (n : Naming) (names : List Naming) (key : ℕ) → Clear setting number targets uniques base
        is_target
        passed n.place names → takes_index key n.place.steps ≡ true → Unchanged key names
    no_index_changed n [] key c h = tt
    no_index_changed n (m ∷ names) key c h =
        ((λ u. by u (m.place.local == key) refl), no_index_changed n names key c.1 h)
      where
        by : m.unique ≡ true → (b : Bool) → (m.place.local == key) ≡ b → b ≡ false
        by u false e = refl
        by u true e = absurd (false≢true (sym (c.0 u).1 ∙ subst (λ x. takes_index x n.place.steps ≡ true)
            (sym ((Decides-eqb m.place.local key).0 e)) h))

    -- a place that a `&mut` argument names has another value
    one_changed : (n : Naming) (names : List Naming) (to : TyId) (x : State) (a : Addr) (d : Datum) (s : Located) →
        n.unique ≡ true → Well last start true to n → presence n.place.local cells ≡ presence n.place.local start →
        apart_one n names ≡ true → Names depth0 held0 n.place (Address a) → After names x → located_at setting x a
        ≡ Some s → Fits items s.dynamic is_present d → After (n ∷ names) (stored_at a d x)
    one_changed n names to x a d s u k p h at b stood fit =
        let c = clear_of n names h in
        let still = names_still setting number targets uniques base is_target passed depth0 held0 b.now.known.held
        n.place
        (Address a) (λ key z. b.held_same key (no_index_changed n names key c z)) at in
        let sure = sure_after setting number targets uniques base is_target passed n.place names last c k.sure in
        let st = name_stored setting number targets uniques base is_target passed x cells (after_all names last) b.now
        n.place sure (uses_now n true to k p) a d s (k.changes refl)
        (subst (λ m. Names m b.now.known.held n.place (Address a)) (sym b.deep) still) stood fit in
        let r : R (stored_at a d x) cells (after_all (n ∷ names) last) =
        subst (λ q. R (stored_at a d x) cells (after_all names (without_if q n.place last))) (sym u)
        (subst (R (stored_at a d x) cells)
        (sym (after_without setting number targets uniques base is_target passed names n.place last)) st.now) in
        let same = known_held setting number targets uniques base is_target passed (stored_at a d x) cells r.known
        st.now.known.held st.now.known.older st.now.known.is_there in
        record {
          now = r;
          held_same = λ key z. ap (cell key) same.0 ∙ st.held_same key (back n.place.local key (z.0 u))
              ∙ b.held_same key z.1;
          deep = ap length same.1 ∙ st.deep ∙ b.deep;
        }
      where
        back : (p q : ℕ) → (p == q) ≡ false → (q == p) ≡ false
        back p q e = by (q == p) refl
          where
            by : (b : Bool) → (q == p) ≡ b → b ≡ false
            by false z = refl
            by true z = absurd (false≢true (sym e ∙ (Decides-eqb p q).1 (sym ((Decides-eqb q p).0 z))))

    pub after_args : (l : ℕ) (ids : List TyId) (names : List Naming) (ds : List Datum) → Here ids names ds →
        (news : List Datum) → News setting v0 (targets_of items l ids ds) news →
        AllAlone (targets_of items l ids ds) → apart_all names ≡ true → Present names →
        After names (written (uniques_of (targets_of items l ids ds)) news v0)
    after_args l ids names ds no_arg news w al h p = record { now = r0; held_same = λ key z. refl; deep = refl }
    after_args l ids names ds (a_value id more_ids more rest d more_ds none fit later) news w al h p =
        subst (λ ts. News setting v0 ts news → AllAlone ts → After (more ++ rest) (written (uniques_of ts) news v0))
        (sym (value_has_none l id d (targets_of items (suc l) more_ids more_ds) none))
        (λ w al. more_names more rest _ (after_args (suc l) more_ids rest more_ds later news w al
        (apart_tail more rest h) (each_back _ more rest p))) w al
    after_args l ids names ds (a_name id more_ids unique to n rest d more_ds ty test at later) news w al h p =
        let a = address_there depth0 held0 n.place d at in
        subst (λ ts. News setting v0 ts news → AllAlone ts → After (n ∷ rest) (written (uniques_of ts) news v0))
        (sym (target_is l id unique to d a.0 a.1 ty (targets_of items (suc l) more_ids more_ds)))
        (by_news a.0 (well last start unique to n test) (subst (Names depth0 held0 n.place) a.1 at) news
        (λ more w al. after_args (suc l) more_ids rest more_ds later more w al (second (apart_one n rest) _ h) p.1)) w
        al
      where
        by_news : (a : Addr) → Well last start unique to n → Names depth0 held0 n.place (Address a) →
            (news : List Datum) → ((more : List Datum) → News setting v0 (targets_of items (suc l) more_ids more_ds)
            more →
            AllAlone (targets_of items (suc l) more_ids more_ds) → After rest (written (uniques_of
            (targets_of items (suc l) more_ids more_ds)) more v0)) →
            News setting v0 ((record { unique = unique; local = l; address = a; to = to })
            ∷ targets_of items (suc l) more_ids more_ds) news →
            AllAlone ((record { unique = unique; local = l; address = a; to = to })
            ∷ targets_of items (suc l) more_ids more_ds) →
            After (n ∷ rest) (written (unique_if unique a (uniques_of (targets_of items (suc l) more_ids more_ds))) news
            v0)
        by_news a k names news f (shared_kept _ _ _ e w) al =
            subst (λ q. After (n ∷ rest) (written (unique_if q a (uniques_of (targets_of items (suc l) more_ids
            more_ds))) news v0)) (sym e) (one_name n rest _ (f news w al.1))
        by_news a k names _ f (unique_new _ _ d' more s e stood fit w) al =
            subst (λ q. After (n ∷ rest) (written (unique_if q a (uniques_of (targets_of items (suc l) more_ids
            more_ds))) (d' ∷ more) v0)) (sym e)
            (one_changed n rest to (written (uniques_of (targets_of items (suc l) more_ids more_ds)) more v0) a d' s
            (k.same_kind ∙ e) (subst (λ q. Well last start q to n) e k) p.0 (first (apart_one n rest) _ h) names
            (f more w al.1)
            (located_from setting a (uniques_of (targets_of items (suc l) more_ids more_ds)) more v0
            (unique_from setting (record { unique = unique; local = l; address = a; to = to })
            (targets_of items (suc l) more_ids more_ds) e al.0) ∙ stood) fit)
