-- What is known of a body that runs after a call changed what its `&mut` arguments name, one place after another: each
-- has another whole value, and the facts that no change hits hold still.
use Rattle.std.proofs.Common.{◌≡◌, ◌≢◌, ◌⊎◌, inl, inr, ℕ, suc, ◌==◌, ◌&&◌, ◌||◌, not, Bool, true, false, List, [], ◌∷◌, ◌++◌, length, filter, Option, Some, None, is_some, if◌then◌else◌, refl, ap, sym, ◌∙◌, subst}
use Rattle.std.specs.Prelude.{slice_get, option_and_then}
use Rattle.std.specs.Option.{option_map_or}
use Rattle.std.proofs.lemmas.Bool.{false≢true}
use Rattle.std.proofs.lemmas.Bool.Decides.{Decides-eqb}
use Rattle.mir_ty.specs.declared.ty.Ty.{Ty}
use Rattle.mir_ty.specs.declared.ty.TyId.{TyId}
use Rattle.mir_ty.specs.ItemTable.{ItemTable, type_at}
use Rattle.store_model.specs.declared.address.Addr.{Addr}
use Rattle.store_model.specs.declared.address.At.{At}
use Rattle.store_model.specs.Values.Datum.{Datum, Gone, Address}
use Rattle.store_model.specs.Values.Access.{replaced}
use Rattle.store_model.specs.Abstract.Effects.{presence, with_presence, may_use, watched_at}
use Rattle.store_model.specs.Abstract.Presence.{Presence, is_present}
use Rattle.store_model.specs.Places.Place.{Step, ToPart, ToField, ToContent, ToElement, Place, place_ty}
use Rattle.store_model.specs.Places.TypeForms.{same_id}
use Rattle.store_model.specs.Concrete.Location.{Setting, OfType, Located, Reaches, reach, located_at, stored_at, root_of}
use Rattle.store_model.specs.Concrete.State.{State, Activation, Cells, cell, with_cell, with_cell_at}
use Rattle.soundness_values.specs.Frames.{Apart, Alike, written}
use Rattle.soundness_values.proofs.Apart.{not_same}
use Rattle.soundness_values.proofs.Behind.{names_it}
use Rattle.soundness_values.proofs.Facts.{Naming, Facts, Each, takes_index, without, without_swapped}
use Rattle.soundness_values.proofs.Fits.{Fits, whole_if_present}
use Rattle.soundness_values.proofs.Frames.{at_older}
use Rattle.soundness_values.proofs.Kept.{fits_kept}
use Rattle.soundness_values.proofs.Known.{Target, StandsFor}
use Rattle.soundness_values.proofs.Along.{path_at, containers_along}
use Rattle.soundness_values.proofs.Reached.{address_of, reached_stands}
use Rattle.soundness_values.proofs.Resealed.{sealed_stored}
use Rattle.soundness_values.proofs.Running.{sure_place, Passed, Runs, Lies, in_local, behind, own_place}
use Rattle.soundness_values.proofs.Reaching.{stands, own_watched, Used, used}
use Rattle.soundness_values.proofs.Watching.{use_own}
use Rattle.soundness_values.proofs.Changing.{own_changed, own_at, own_there, known_held, runs_without}
use Rattle.soundness_values.proofs.ChangingBehind.{behind_changed}
use Rattle.soundness_values.proofs.Checks.{id_of, may_change, meet, overlap, are_apart, is_unique, without_if, names_well, apart_from, all_apart, after_naming, after_namings}
use Rattle.soundness_values.proofs.Standings.{cell_other, changed_length}
use Rattle.soundness_values.proofs.Storing.{names_unique, same_presence, runs_listed}
use Rattle.soundness_values.proofs.StillSure.{sure_still}
use Rattle.soundness_values.proofs.Taking.{first, second, not_so}
use Rattle.soundness_values.proofs.Ways.{whole_along}
use Rattle.soundness_values.proofs.Passing.{NamesAt, own_names, behind_names}
use Rattle.soundness_values.proofs.Arguments.{Args, no_arg, a_value, a_name, names_still}
use Rattle.soundness_values.proofs.Contracts.{targets_of, target_if, unique_if, uniques_of, no_target, one_target, News, no_news, shared_kept, unique_new}

-- ---- steps that meet

number_back : (n m : ℕ) → (n == m) ≡ (m == n)
number_back n m = by (n == m) refl (m == n) refl
  where
    by : (b : Bool) → (n == m) ≡ b → (c : Bool) → (m == n) ≡ c → b ≡ c
    by true e true k = refl
    by false e false k = refl
    by true e false k = absurd (false≢true (sym k ∙ (Decides-eqb m n).1 (sym ((Decides-eqb n m).0 e))))
    by false e true k = absurd (false≢true (sym e ∙ (Decides-eqb n m).1 (sym ((Decides-eqb m n).0 k))))

meet_back : (a b : List Step) → meet a b ≡ meet b a
meet_back [] [] = refl
meet_back [] (s ∷ b) = first_met s b
  where
    first_met : (s : Step) (b : List Step) → true ≡ meet (s ∷ b) []
    first_met (ToPart n) b = refl
    first_met (ToField u n) b = refl
    first_met ToContent b = refl
    first_met (ToElement i) b = refl
meet_back (ToPart n ∷ a) [] = refl
meet_back (ToField u n ∷ a) [] = refl
meet_back (ToContent ∷ a) [] = refl
meet_back (ToElement i ∷ a) [] = refl
meet_back (ToElement i ∷ a) (ToPart m ∷ b) = refl
meet_back (ToElement i ∷ a) (ToField v m ∷ b) = refl
meet_back (ToElement i ∷ a) (ToContent ∷ b) = refl
meet_back (ToElement i ∷ a) (ToElement j ∷ b) = refl
meet_back (ToPart n ∷ a) (ToElement i ∷ b) = refl
meet_back (ToField u n ∷ a) (ToElement i ∷ b) = refl
meet_back (ToContent ∷ a) (ToElement i ∷ b) = refl
meet_back (ToPart n ∷ a) (ToPart m ∷ b) = ap (λ x. x && meet a b) (number_back n m) ∙ ap (λ x. m == n && x)
    (meet_back a b)
meet_back (ToPart n ∷ a) (ToField v m ∷ b) =
    ap (λ x. x && meet a b) (number_back n m) ∙ ap (λ x. m == n && x) (meet_back a b)
meet_back (ToField u n ∷ a) (ToPart m ∷ b) =
    ap (λ x. x && meet a b) (number_back n m) ∙ ap (λ x. m == n && x) (meet_back a b)
meet_back (ToField u n ∷ a) (ToField v m ∷ b) =
    ap (λ x. x && meet a b) (number_back n m) ∙ ap (λ x. m == n && x) (meet_back a b)
meet_back (ToPart n ∷ a) (ToContent ∷ b) = refl
meet_back (ToField u n ∷ a) (ToContent ∷ b) = refl
meet_back (ToContent ∷ a) (ToPart m ∷ b) = refl
meet_back (ToContent ∷ a) (ToField v m ∷ b) = refl
meet_back (ToContent ∷ a) (ToContent ∷ b) = meet_back a b

module _ (setting : Setting) (number : ℕ) (targets : List Target) (uniques : List Addr) (base : State)
    (is_target : ℕ → Bool) (passed : Passed setting number targets uniques base is_target) where
  abbrev items : ItemTable
  items = setting.items

  abbrev local_ty : ℕ → Option TyId
  local_ty key = setting.local_ty number key

  abbrev R : State → List (ℕ × Presence) → Facts → Type 0
  R = Runs setting number targets uniques base is_target

  abbrev S : Facts → Place → Bool
  S = sure_place items local_ty is_target

  abbrev Names : ℕ → Cells → Place → Datum → Type 0
  Names = NamesAt setting number targets uniques base is_target passed

  abbrev after_all : List Naming → Facts → Facts
  after_all = after_namings items local_ty is_target

  after_one : (n : Naming) (place : Place) (facts : Facts) → after_naming items local_ty is_target n
      (without place facts)
      ≡ without place (after_naming items local_ty is_target n facts)
  after_one n place facts = by n.unique
    where
      by : (b : Bool) → without_if b n.place (without place facts) ≡ without place (without_if b n.place facts)
      by true = without_swapped n.place place facts
      by false = refl

  -- a change before or after those of the names
  pub after_without : (names : List Naming) (place : Place) (facts : Facts) → after_all names (without place facts)
      ≡ without place (after_all names facts)
  after_without [] place facts = refl
  after_without (n ∷ names) place facts = ap (after_all names) (after_one n place facts)
      ∙ after_without names place (after_naming items local_ty is_target n facts)

  pub overlap_back : (a b : Place) → overlap a b ≡ false → overlap b a ≡ false
  overlap_back a b h = ap (λ x. x && meet b.steps a.steps) (number_back b.local a.local)
      ∙ ap (λ x. a.local == b.local && x) (meet_back b.steps a.steps) ∙ h

  -- a place that is apart from all that changes is sure still
  abbrev pub Clear : Place → List Naming → Type 0
  Clear place names = Each (λ (m : Naming). m.unique ≡ true → (overlap m.place place ≡ false)
      × (takes_index m.place.local place.steps ≡ false)) names

  pub sure_after : (place : Place) (names : List Naming) (facts : Facts) → Clear place names → S facts place ≡ true →
      S (after_all names facts) place ≡ true
  sure_after place [] facts c h = h
  sure_after place (m ∷ names) facts c h = sure_after place names (after_naming items local_ty is_target m facts) c.1
      (by m.unique refl)
    where
      by : (b : Bool) → m.unique ≡ b → S (without_if b m.place facts) place ≡ true
      by true e = let k = c.0 e in
          sure_still setting number targets uniques base is_target facts m.place place k.0 k.1 h
      by false e = h

  -- ---- another whole value at a place that is known

  module _ (x : State) (cells : List (ℕ × Presence)) (facts : Facts) (r : R x cells facts) (place : Place)
      (s : S facts place ≡ true) (uses : may_use (watched_at items local_ty (record { node = 0; place = place }))
      (presence place.local cells) ≡ true) where
    abbrev pub at_place : Used setting number targets uniques base is_target passed x cells facts r place s
    at_place = used setting number targets uniques base is_target passed x cells facts r place s 0 uses

    whole_there : is_target place.local ≡ false → whole_along place.steps (presence place.local cells) ≡ true
    whole_there own = (use_own place.steps (presence place.local cells)
        (sym (ap (λ y. may_use y (presence place.local cells))
        (own_watched setting number targets uniques base is_target passed x cells facts r place s 0 own)) ∙ uses)).1

    -- what a name names is what stands at its place
    reaches_name : (l : Lies setting number targets uniques base is_target passed x cells facts r place) (a : Addr) →
        Names (length r.known.older) r.known.held place (Address a) →
        (stands setting number targets uniques base is_target passed x cells facts r place l).standing.address ≡ a
    unfolding stands
    reaches_name (in_local id typed none own sure lead) a (own_names o e) =
        ap (λ p. own_place setting number targets uniques base is_target (length r.known.older) place.local p)
        lead.path_is ∙ sym (address_is e)
      where
        address_is : {u v : Addr} → Address u ≡ Address v → u ≡ v
        address_is z = cc
    reaches_name (in_local id typed none own sure lead) a (behind_names n t at same steps is e) =
        absurd (false≢true (sym own ∙ subst (λ y. is_target y ≡ true) same (passed.is_param n t at)))
    reaches_name (behind n t at same steps is sure lead) a (own_names o e) =
        absurd (false≢true (sym o ∙ subst (λ y. is_target y ≡ true) same (passed.is_param n t at)))
    reaches_name (behind n t at same steps is sure lead) a (behind_names m u u_at u_same rest u_is e) =
        let one : n ≡ m = passed.one_local n m t u at u_at (same ∙ sym u_same) in
        let is_t : t ≡ u = some_target (sym at ∙ ap (slice_get targets) one ∙ u_at) in
        let is_steps : steps ≡ rest = ap rest_of (sym is ∙ u_is) in
        ap (λ (b : Addr). record b { path = b.path ++ lead.path })
        (address_of setting x t.address (r.known.stands n t at).standing (r.known.stands n t at).stands
        ∙ ap (λ (v : Target). v.address) is_t)
        ∙ ap (λ p. record u.address { path = u.address.path ++ p })
        (lead.path_is ∙ ap (path_at r.known.held) is_steps) ∙ sym (address_is e)
      where
        address_is : {u v : Addr} → Address u ≡ Address v → u ≡ v
        address_is z = cc

        some_target : {p q : Target} → Some p ≡ Some q → p ≡ q
        some_target z = cc

        rest_of : List Step → List Step
        rest_of [] = []
        rest_of (step ∷ steps) = steps

    pub named_address : (a : Addr) → Names (length r.known.older) r.known.held place (Address a) →
        at_place.at.standing.address ≡ a
    named_address a n = ap (λ (z : Located). z.address) (sym at_place.same) ∙ reaches_name at_place.lies a n

    pub record Stored (a : Addr) (d : Datum) : Type 0 where
      pub now : R (stored_at a d x) cells (without place facts)
      pub held_same : (key : ℕ) → (key == place.local) ≡ false → cell key now.known.held ≡ cell key r.known.held
      pub deep : length now.known.older ≡ length r.known.older

    stored_by : (l : Lies setting number targets uniques base is_target passed x cells facts r place) (d : Datum) →
        may_change items local_ty is_target place ≡ true → Fits items (stands setting number targets uniques base
        is_target passed x cells facts r place l).standing.dynamic is_present d →
        Stored (stands setting number targets uniques base is_target passed x cells facts r place l).standing.address d
    unfolding stands
    stored_by (in_local id typed none own sure lead) d changes fit =
        let fits_now = subst (λ p. Fits items (OfType id) (presence place.local cells)
        (replaced p d (cell place.local r.known.held))) lead.path_is
        (fits_kept items (presence place.local cells) d lead.way (r.known.fits place.local id typed) (whole_there own)
        fit) in
        let changed = own_changed setting number targets uniques base is_target passed x cells facts r place own id
        typed d (λ p. p) fits_now (sealed_stored (path_at r.known.held place.steps) d (cell place.local r.known.held)
        (whole_if_present items d lead.dynamic is_present refl fit) (r.sealed place.local)) in
        let listed = runs_listed setting number targets uniques base is_target passed
        (stored_at (own_at setting number targets uniques base is_target passed x cells facts r place own id typed d
        (λ p. p)) d x) (with_presence place.local (λ p. p) cells) cells (without place facts)
        (λ key. sym (same_presence setting number targets uniques base is_target passed place.local (λ p. p) cells refl
        key)) changed in
        subst (λ p. Stored (record { depth = length r.known.older; key = (record { 0 = place.local }); path = p }) d)
        (sym lead.path_is) (record {
          now = listed;
          held_same = λ key h. ap (cell key) (same_now listed).0 ∙ cell_other place.local key _ r.known.held h;
          deep = ap length (same_now listed).1;
        })
      where
        same_now : (k : R (stored_at (own_at setting number targets uniques base is_target passed x cells facts r place
            own id typed d (λ p. p)) d x) cells (without place facts)) → (k.known.held ≡ with_cell place.local
            (replaced (path_at r.known.held place.steps) d (cell place.local r.known.held)) r.known.held)
            × (k.known.older ≡ r.known.older)
        same_now k = known_held setting number targets uniques base is_target passed _ cells k.known _ r.known.older
            (own_there setting number targets uniques base is_target passed x cells facts r place own id typed d
            (λ p. p))
    stored_by (behind n t at same steps is sure lead) d changes fit =
        let ty = passed.typed n t at in
        let unique : t.unique ≡ true = names_unique setting number targets uniques base is_target passed t ty.0 ty.1.1
        (subst (λ o. is_unique items local_ty is_target o ≡ true) (ap local_ty (sym same) ∙ ty.1.0)
        (or_second (is_target place.local) _ changes (subst (λ y. is_target y ≡ true) same (passed.is_param n t at))))
        in
        let changed = behind_changed setting number targets uniques base is_target passed x cells facts r n t at unique
        place same steps is lead.dynamic lead.inner d lead.path lead.path_is lead.way fit in
        record {
          now = changed;
          held_same = λ key h. ap (cell key) (same_now changed).0;
          deep = ap length (same_now changed).1 ∙ changed_length _ _ _ r.known.older;
        }
      where
        or_second : (p q : Bool) → (not p || q) ≡ true → p ≡ true → q ≡ true
        or_second true q h k = h
        or_second false q h k = absurd (false≢true k)

        b : Addr
        b = record ((r.known.stands n t at).standing.address)
            { path = (r.known.stands n t at).standing.address.path ++ lead.path }

        deep_b : (b.depth == length r.known.older) ≡ false
        deep_b = not_same b.depth (length r.known.older) (λ e. r.known.is_older n t at (sym (ap (λ (z : Addr). z.depth)
            (address_of setting x t.address (r.known.stands n t at).standing (r.known.stands n t at).stands)) ∙ e))

        same_now : (k : R (stored_at b d x) cells (without place facts)) → (k.known.held ≡ r.known.held)
            × (k.known.older ≡ with_cell_at b.depth b.key.0 (replaced b.path d (root_of b x)) r.known.older)
        same_now k = known_held setting number targets uniques base is_target passed (stored_at b d x) cells k.known
            r.known.held (with_cell_at b.depth b.key.0 (replaced b.path d (root_of b x)) r.known.older)
            (ap (with_cell_at b.depth b.key.0 (replaced b.path d (root_of b x))) r.known.is_there
            ∙ at_older b.depth b.key.0 (replaced b.path d (root_of b x))
            (record { body = number; cells = r.known.held }) r.known.older deep_b)

    -- what a name names has another whole value
    pub name_stored : (a : Addr) (d : Datum) (s0 : Located) → may_change items local_ty is_target place ≡ true →
        Names (length r.known.older) r.known.held place (Address a) → located_at setting x a ≡ Some s0 →
        Fits items s0.dynamic is_present d → Stored a d
    name_stored a d s0 changes n stood fit =
        let l = at_place.lies in
        let st = stands setting number targets uniques base is_target passed x cells facts r place l in
        let there = reaches_name l a n in
        let same : st.standing ≡ s0 = some_same (sym (reached_stands setting x place st.standing st.reached)
        ∙ ap (located_at setting x) there ∙ stood) in
        subst (λ b. Stored b d) there
        (stored_by l d changes (subst (λ (z : Located). Fits items z.dynamic is_present d) (sym same) fit))
      where
        some_same : {p q : Located} → Some p ≡ Some q → p ≡ q
        some_same z = cc
