-- The arguments of a call in a checked run, one after another: each is a whole value of the type of its parameter, or
-- a reference to a place that is known; and what is not moved stands as it did.
use Rattle.std.proofs.Common.{◌≡◌, ◌≢◌, ℕ, ◌==◌, ◌&&◌, ◌||◌, not, Bool, true, false, List, [], ◌∷◌, ◌++◌, length, Option, Some, None, is_some, if◌then◌else◌, refl, ap, sym, ◌∙◌, subst}
use Rattle.std.specs.Prelude.{slice_get, option_and_then}
use Rattle.std.specs.List.{list_any, list_all, find}
use Rattle.std.specs.Option.{option_map_or}
use Rattle.std.proofs.lemmas.Bool.{false≢true}
use Rattle.std.proofs.lemmas.Bool.Decides.{Decides-eqb}
use Rattle.std.proofs.lemmas.Option.{none-some}
use Rattle.mir_ty.specs.declared.ty.Ty.{Ty}
use Rattle.mir_ty.specs.declared.ty.TyId.{TyId}
use Rattle.mir_ty.specs.ItemTable.{ItemTable, type_at}
use Rattle.store_model.proofs.Effects.Following.{Relation}
use Rattle.store_model.specs.declared.address.Addr.{Addr}
use Rattle.store_model.specs.declared.address.At.{At}
use Rattle.store_model.specs.declared.address.At.TheVariants.{Part, Inside}
use Rattle.store_model.specs.Values.Datum.{Datum, Gone, Number, Truth, UnitValue, Address}
use Rattle.store_model.specs.Values.Access.{replaced}
use Rattle.store_model.specs.Values.Wholeness.{is_whole}
use Rattle.store_model.specs.Effects as effects
use Rattle.store_model.specs.Effects.{EffectSite, Operand, BadUse, Out, Go, on_go}
use Rattle.store_model.specs.Abstract.Effects as free
use Rattle.store_model.specs.Abstract.Effects.{AbstractState, presence, with_presence, may_use, watched_at, acted, operand_used, operands_used, unless_never}
use Rattle.store_model.specs.Abstract.Presence.{Presence, is_present}
use Rattle.store_model.specs.Places.Place.{Step, ToPart, ToField, ToContent, ToElement, Place, place_ty, whole_local}
use Rattle.store_model.specs.Concrete.Effects as values
use Rattle.store_model.specs.Concrete.Effects.{or_stuck, whole_at, whole, evaluate_operand, evaluate_operands}
use Rattle.store_model.specs.Concrete.Location.{Setting, OfType, Located, named_by, on_reached, reach, root_of, stored_at}
use Rattle.store_model.specs.Concrete.State.{State, Activation, Cells, cell, with_cell, with_cell_at}
use Rattle.soundness_values.proofs.Doing.{FollowsOut, goes_on, refused, out_after}
use Rattle.soundness_values.proofs.Fits.{Fits}
use Rattle.soundness_values.proofs.Facts.{Naming, Facts, Each, takes_index, without}
use Rattle.soundness_values.proofs.Frames.{at_head}
use Rattle.soundness_values.proofs.Known.{Target}
use Rattle.soundness_values.proofs.Behind.{names_it}
use Rattle.soundness_values.proofs.Dropped.{feeding}
use Rattle.soundness_values.proofs.Along.{number_in, path_at}
use Rattle.soundness_values.proofs.LocalPresence.{presence_other}
use Rattle.soundness_values.proofs.Standings.{cell_other}
use Rattle.soundness_values.proofs.Running.{sure_place, Passed, Runs, Lies, in_local, behind, NamingHolds, own_named, behind_named, own_place}
use Rattle.soundness_values.proofs.Reaching.{stands, from_root, own_watched}
use Rattle.soundness_values.proofs.Changing.{own_changed, known_held}
use Rattle.soundness_values.proofs.Checks.{id_of, is_of, is_value, may_move, takes_well, after_operand, after_operands, no_steps, naming_of, names_well, names_well_if_any, passes_reference, passes_as, passes, listed, named_by_one, named_by_all, takes_from}
use Rattle.soundness_values.proofs.Taking.{first, second, not_so, rel, as_its_type, ValueOf, of_copied, of_moved, of_number, of_truth, of_unit, using_follows, taken}
use Rattle.soundness_values.proofs.Taking as taking
use Rattle.soundness_values.proofs.Acting.{value_is}
use Rattle.soundness_values.proofs.Building.{one_then_all}
use Rattle.soundness_values.proofs.Testing.{none_of, whole_place}
use Rattle.soundness_values.proofs.Ways.{has_index}

-- the locals that operands are moved from
abbrev pub moves_one : Operand → ℕ → Bool
moves_one (effects.Moved site) key = site.place.local == key
moves_one operand key = false

abbrev pub moves_any : List Operand → ℕ → Bool
moves_any [] key = false
moves_any (operand ∷ operands) key = moves_one operand key || moves_any operands key

pub path_unmoved : (a b : Cells) (steps : List Step) →
    ((key : ℕ) → takes_index key steps ≡ true → cell key a ≡ cell key b) → path_at a steps ≡ path_at b steps
path_unmoved a b [] same = refl
path_unmoved a b (ToPart n ∷ steps) same = ap (λ p. Part n ∷ p) (path_unmoved a b steps same)
path_unmoved a b (ToField v n ∷ steps) same = ap (λ p. Part n ∷ p) (path_unmoved a b steps same)
path_unmoved a b (ToContent ∷ steps) same = ap (λ p. Inside ∷ p) (path_unmoved a b steps same)
path_unmoved a b (ToElement i ∷ steps) same =
    ap (λ d. at_number d ∷ path_at a steps) (same i (ap (λ c. c || takes_index i steps) ((Decides-eqb i i).1 refl)))
    ∙ ap (λ p. at_number (cell i b) ∷ p) (path_unmoved a b steps (λ key h. same key (later (i == key)
    (takes_index key steps) h)))
  where
    at_number : Datum → At
    at_number d = Part (number_in d)

    later : (x y : Bool) → y ≡ true → (x || y) ≡ true
    later true y h = refl
    later false y h = h

pub or_false : (x y : Bool) → (x || y) ≡ false → (x ≡ false) × (y ≡ false)
or_false true y h = absurd (false≢true (sym h))
or_false false y h = (refl, h)

module _ (setting : Setting) (number : ℕ) (targets : List Target) (uniques : List Addr) (base : State)
    (is_target : ℕ → Bool) (passed : Passed setting number targets uniques base is_target) where
  abbrev items : ItemTable
  items = setting.items

  abbrev local_ty : ℕ → Option TyId
  local_ty key = setting.local_ty number key

  abbrev R : State → List (ℕ × Presence) → Facts → Type 0
  R = Runs setting number targets uniques base is_target

  abbrev rels : Facts → Relation State AbstractState
  rels = rel setting number targets uniques base is_target passed

  abbrev takes : Facts → Operand → Bool
  takes = takes_well items local_ty is_target

  abbrev after : Operand → Facts → Facts
  after = after_operand items local_ty is_target

  abbrev S : Facts → Place → Bool
  S = sure_place items local_ty is_target

  -- the address of a place that is named
  pub data NamesAt (depth : ℕ) (held : Cells) (place : Place) (d : Datum) : Type 0 where
    own_names : is_target place.local ≡ false →
        d ≡ Address (own_place setting number targets uniques base is_target depth place.local
        (path_at held place.steps)) → NamesAt depth held place d
    behind_names : (n : ℕ) (t : Target) → slice_get targets n ≡ Some t → t.local ≡ place.local →
        (steps : List Step) → place.steps ≡ ToContent ∷ steps →
        d ≡ Address (record t.address { path = t.address.path ++ path_at held steps }) →
        NamesAt depth held place d

  -- what is moved by an operand, or by several, and what is not
  pub record Moves (moved : ℕ → Bool) (held : Cells) (older : List Activation) (cells : List (ℕ × Presence)) (v : State)
      (cells' : List (ℕ × Presence)) : Type 0 where
    pub now : Cells
    pub is_there : v.activations ≡ (record { body = number; cells = now }) ∷ older
    pub held_same : (key : ℕ) → moved key ≡ false → cell key now ≡ cell key held
    pub present_same : (key : ℕ) → moved key ≡ false → presence key cells' ≡ presence key cells

  module _ (w : State) (cells : List (ℕ × Presence)) (facts : Facts) (runs : R w cells facts) where
    pub stays_so : (moved : ℕ → Bool) → Moves moved runs.known.held runs.known.older cells w cells
    stays_so moved = record {
      now = runs.known.held;
      is_there = runs.known.is_there;
      held_same = λ key h. refl;
      present_same = λ key h. refl;
    }

    swapped : (a b : ℕ) → (a == b) ≡ false → (b == a) ≡ false
    swapped a b h = by (b == a) refl
      where
        by : (c : Bool) → (b == a) ≡ c → c ≡ false
        by false e = refl
        by true e = absurd (false≢true (sym h ∙ (Decides-eqb a b).1 (sym ((Decides-eqb b a).0 e))))

    own_moves : (local : ℕ) (path : List At) (change : Presence → Presence) →
        Moves (λ key. local == key) runs.known.held runs.known.older cells
        (stored_at (record { depth = length runs.known.older; key = (record { 0 = local }); path = path }) Gone w)
        (with_presence local change cells)
    own_moves local path change = record {
      now = with_cell local (replaced path Gone (root_of (record {
        depth = length runs.known.older;
        key = (record { 0 = local });
        path = path;
      }) w)) runs.known.held;
      is_there = ap (with_cell_at (length runs.known.older) local (replaced path Gone (root_of (record {
        depth = length runs.known.older;
        key = (record { 0 = local });
        path = path;
      }) w))) runs.known.is_there
          ∙ at_head (length runs.known.older) local (replaced path Gone (root_of (record {
            depth = length runs.known.older;
            key = (record { 0 = local });
            path = path;
          }) w)) (record { body = number; cells = runs.known.held }) runs.known.older
          ((Decides-eqb (length runs.known.older) (length runs.known.older)).1 refl);
      held_same = λ key h. cell_other local key _ runs.known.held (swapped local key h);
      present_same = λ key h. presence_other local key change cells (swapped local key h);
    }

    moved_away : (site : EffectSite) → may_move items local_ty is_target site.place ≡ true →
        (l : Lies setting number targets uniques base is_target passed w cells facts runs site.place) →
        Moves (moves_one (effects.Moved site)) runs.known.held runs.known.older cells
        (stored_at (stands setting number targets uniques base is_target passed w cells facts runs site.place
        l).standing.address Gone w)
        (with_presence site.place.local (acted true (watched_at items local_ty site)) cells)
    unfolding stands
    moved_away site moves (in_local id typed none own sure lead) =
        own_moves site.place.local lead.path (acted true (watched_at items local_ty site))
    moved_away site moves (behind n t at same steps is sure lead) =
        absurd (false≢true (sym (not_so (is_target site.place.local)
        (first (not (is_target site.place.local)) (not (has_index site.place.steps))
        (first (not (is_target site.place.local) && not (has_index site.place.steps)) _ moves)))
        ∙ subst (λ x. is_target x ≡ true) same (passed.is_param n t at)))

    -- an operand, and what stays as it was
    pub operand_moves : (goal : Facts) (operand : Operand) (w0 : State) (next : Datum → State → Out State)
        (more : AbstractState → Out AbstractState) → takes facts operand ≡ true →
        ((d : Datum) (v : State) (cells' : List (ℕ × Presence)) →
        ValueOf setting number targets uniques base is_target passed operand d → R v cells' (after operand facts) →
        Moves (moves_one operand) runs.known.held runs.known.older cells v cells' →
        FollowsOut (rels goal) tt (next d v) (λ t. more (feeding t cells'))) →
        FollowsOut (rels goal) tt
        (or_stuck {A = Datum × State} (evaluate_operand setting operand w) (λ t. next t.0 t.1) w0)
        (λ t. on_go (operand_used items local_ty operand (feeding t cells)) more)
    operand_moves goal (effects.Number value kind) w0 next more h f =
        f (Number value) w cells (of_number value kind h) runs (stays_so (λ key. false))
    operand_moves goal (effects.Truth value) w0 next more h f =
        f (Truth value) w cells (of_truth value) runs (stays_so (λ key. false))
    operand_moves goal effects.UnitValue w0 next more h f = f UnitValue w cells of_unit runs (stays_so (λ key. false))
    operand_moves goal (effects.Copied site) w0 next more h f =
        let s = first (S facts site.place) _ h in
        let v = first (is_value items local_ty is_target site.place) _ (second (S facts site.place) _ h) in
        subst (λ o. FollowsOut (rels goal) tt o
        (λ t. on_go (operand_used items local_ty (effects.Copied site) (feeding t cells)) more))
        (copied_is (whole_at setting w site))
        (using_follows setting number targets uniques base is_target passed w cells facts runs goal site w0
        (λ u. next u.value w) (unless_never items local_ty (free.never_at items local_ty site)) more s
        (λ u.
        let fit = as_its_type setting number targets uniques base is_target passed u.at.end u.at.standing u.at.as_end
        (taking.sized setting number targets uniques base is_target passed w cells facts runs site.place u.at.end
        u.at.end_is v) u.fits in
        out_after (rels goal) [] _ (λ rest. ap (λ b. on_go (unless_never items local_ty b (feeding rest cells)) more)
        (taking.never_false setting number targets uniques base is_target passed w cells facts runs site u.at.end
        u.at.standing.value u.at.end_is fit))
        (f u.at.standing.value w cells (of_copied site u.at.end u.at.standing.value u.at.end_is fit) runs
        (stays_so (λ key. false)))))
      where
        copied_is : (o : Option Located) → or_stuck o (λ u. next u.value w) w0 ≡ or_stuck {A = Datum × State}
            (option_map_or (λ u. Some (u.value, w)) o None) (λ t. next t.0 t.1) w0
        copied_is None = refl
        copied_is (Some u) = refl
    operand_moves goal (effects.Moved site) w0 next more h f =
        let s = first (S facts site.place) _ h in
        let rest = second (S facts site.place) _ h in
        let v = first (is_value items local_ty is_target site.place) _ rest in
        let moves = second (is_value items local_ty is_target site.place) _ rest in
        subst (λ o. FollowsOut (rels goal) tt o
        (λ t. on_go (operand_used items local_ty (effects.Moved site) (feeding t cells)) more))
        (moved_is (whole_at setting w site))
        (using_follows setting number targets uniques base is_target passed w cells facts runs goal site w0
        (λ u. next u.value (stored_at u.address Gone w)) (λ x. Go (free.after items local_ty true site x)) more s
        (λ u.
        let fit = as_its_type setting number targets uniques base is_target passed u.at.end u.at.standing u.at.as_end
        (taking.sized setting number targets uniques base is_target passed w cells facts runs site.place u.at.end
        u.at.end_is v) u.fits in
        f u.at.standing.value (stored_at u.at.standing.address Gone w)
        (with_presence site.place.local (acted true (watched_at items local_ty site)) cells)
        (of_moved site u.at.end u.at.standing.value u.at.end_is fit)
        (subst (λ (x : Located). R (stored_at x.address Gone w)
        (with_presence site.place.local (acted true (watched_at items local_ty site)) cells)
        (without site.place facts)) u.same
        (taken setting number targets uniques base is_target passed w cells facts runs site s moves u.lies))
        (subst (λ (x : Located). Moves (moves_one (effects.Moved site)) runs.known.held runs.known.older cells
        (stored_at x.address Gone w)
        (with_presence site.place.local (acted true (watched_at items local_ty site)) cells)) u.same
        (moved_away site moves u.lies))))
      where
        moved_is : (o : Option Located) → or_stuck o (λ u. next u.value (stored_at u.address Gone w)) w0
            ≡ or_stuck {A = Datum × State} (option_map_or (λ u. Some (u.value, stored_at u.address Gone w)) o None)
            (λ t. next t.0 t.1) w0
        moved_is None = refl
        moved_is (Some u) = refl

  -- ---- a reference that is passed

  found_naming : (holds : Naming → Type 0) (local : ℕ) (list : List Naming) (n : Naming) →
      find (λ (m : Naming). m.local == local) list ≡ Some n → Each holds list → (n.local ≡ local) × holds n
  found_naming holds local [] n e h = absurd (none-some n e)
  found_naming holds local (m ∷ list) n e h = by (m.local == local) refl e
      (λ k. found_naming holds local list n k h.1)
    where
      by : (b : Bool) → (m.local == local) ≡ b → (if b then Some m else find (λ (x : Naming). x.local == local) list)
          ≡ Some n → (find (λ (x : Naming). x.local == local) list ≡ Some n → (n.local ≡ local) × holds n) →
          (n.local ≡ local) × holds n
      by true k e later =
          let same : m ≡ n = cc in
          (ap (λ (x : Naming). x.local) (sym same) ∙ (Decides-eqb m.local local).0 k, subst holds same h.0)
      by false k e later = later e

  names_at : (depth : ℕ) (held : Cells) (n : Naming) (d : Datum) → cell n.local held ≡ d →
      NamingHolds setting number targets uniques base is_target depth held n → NamesAt depth held n.place d
  names_at depth held n d e (own_named o h) = own_names o (sym e ∙ h)
  names_at depth held n d e (behind_named m t at same steps is h) = behind_names m t at same steps is (sym e ∙ h)

  address_whole : (depth : ℕ) (held : Cells) (place : Place) (d : Datum) → NamesAt depth held place d →
      is_whole d ≡ true
  address_whole depth held place d (own_names o e) = ap is_whole e
  address_whole depth held place d (behind_names n t at same steps is e) = ap is_whole e

  module _ (w : State) (cells : List (ℕ × Presence)) (facts : Facts) (runs : R w cells facts) where
    module _ (goal : Facts) (node local : ℕ) (own : is_target local ≡ false) (id : TyId)
        (typed : local_ty local ≡ Some id) (n : Naming) (naming : naming_of items local_ty is_target local facts
        ≡ Some n) (w0 : State) (next : Datum → State → Out State) (more : AbstractState → Out AbstractState) where
      abbrev site : EffectSite
      site = record { node = node; place = whole_local local }

      abbrev at_local : Addr
      at_local = record { depth = length runs.known.older; key = (record { 0 = local }); path = [] }

      abbrev taken_cells : List (ℕ × Presence)
      taken_cells = with_presence local (acted true (watched_at items local_ty site)) cells

      names_there : NamesAt (length runs.known.older) runs.known.held n.place (cell local runs.known.held)
      names_there =
          let f = found_naming (NamingHolds setting number targets uniques base is_target (length runs.known.older)
          runs.known.held) local facts.naming n naming runs.holding.naming in
          names_at (length runs.known.older) runs.known.held n (cell local runs.known.held)
          (ap (λ k. cell k runs.known.held) f.0) f.1

      -- a local that holds a reference is moved
      pub reference_moves : ((d : Datum) → NamesAt (length runs.known.older) runs.known.held n.place d →
          R (stored_at at_local Gone w) taken_cells (without (whole_local local) facts) →
          Moves (moves_one (effects.Moved site)) runs.known.held runs.known.older cells (stored_at at_local Gone w)
          taken_cells → FollowsOut (rels goal) tt (next d (stored_at at_local Gone w))
          (λ t. more (feeding t taken_cells))) →
          FollowsOut (rels goal) tt
          (or_stuck {A = Datum × State} (evaluate_operand setting (effects.Moved site) w) (λ t. next t.0 t.1) w0)
          (λ t. on_go (operand_used items local_ty (effects.Moved site) (feeding t cells)) more)
      reference_moves f = by (may_use (watched_at items local_ty site) (presence local cells)) refl
        where
          freely : Bool → List Bool → Out AbstractState
          freely b t = on_go (free.when b (BadUse site) (λ x. Go (free.after items local_ty true site x))
              (feeding t cells)) more

          evaluated : evaluate_operand setting (effects.Moved site) w
              ≡ Some (cell local runs.known.held, stored_at at_local Gone w)
          evaluated =
              ap (λ o. option_map_or (λ (s : Located). Some (s.value, stored_at s.address Gone w)) o None)
              (ap (λ r. on_reached r (whole setting) None None)
              (from_root setting number targets uniques base is_target passed w cells facts runs (whole_local local) id
              typed)
              ∙ ap (λ b. values.if_so b (record {
                address = at_local;
                dynamic = OfType id;
                value = cell local runs.known.held;
              })) (address_whole (length runs.known.older) runs.known.held n.place (cell local runs.known.held)
              names_there))

          by : (b : Bool) → may_use (watched_at items local_ty site) (presence local cells) ≡ b →
              FollowsOut (rels goal) tt
              (or_stuck {A = Datum × State} (evaluate_operand setting (effects.Moved site) w) (λ t. next t.0 t.1) w0)
              (λ t. on_go (operand_used items local_ty (effects.Moved site) (feeding t cells)) more)
          by false e = refused tt _ (BadUse site) cells [] _ tt (λ rest. ap (λ b. freely b rest) e)
          by true e =
              subst (λ o. FollowsOut (rels goal) tt (or_stuck {A = Datum × State} o (λ t. next t.0 t.1) w0)
              (λ t. on_go (operand_used items local_ty (effects.Moved site) (feeding t cells)) more)) (sym evaluated)
              (out_after (rels goal) [] _ (λ rest. ap (λ b. freely b rest) e)
              (f (cell local runs.known.held) names_there
              (own_changed setting number targets uniques base is_target passed w cells facts runs (whole_local local)
              own id typed Gone (acted true (watched_at items local_ty site)) refl tt)
              (own_moves w cells facts runs local [] (acted true (watched_at items local_ty site)))))
