-- Operands of a checked run: a value that is copied or moved is whole and of the type of its place, and what is
-- known goes on to hold. So each follows that of a free run, which takes no choice.
use Rattle.std.proofs.Common.{◌≡◌, ℕ, ℤ, ◌&&◌, not, Bool, true, false, List, [], length, Option, Some, None, refl, ap, sym, ◌∙◌, subst}
use Rattle.std.specs.Prelude.{option_and_then}
use Rattle.std.specs.Option.{option_map_or}
use Rattle.std.proofs.lemmas.Bool.{false≢true}
use Rattle.mir_base.specs.declared.int_kind.IntKind.{IntKind}
use Rattle.mir_ty.specs.declared.ty.Ty.{Ty}
use Rattle.mir_ty.specs.declared.ty.TyId.{TyId}
use Rattle.mir_ty.specs.ItemTable.{ItemTable, type_at}
use Rattle.store_model.proofs.Effects.Following.{Relation}
use Rattle.store_model.specs.declared.address.Addr.{Addr}
use Rattle.store_model.specs.Values.Datum.{Datum, Gone, Number, Truth, UnitValue, Aggregate, Box, Address}
use Rattle.store_model.specs.Values.Access.{replaced}
use Rattle.store_model.specs.Effects as effects
use Rattle.store_model.specs.Effects.{EffectSite, Operand, Halt, Aborted, OutOfTicks, BadUse, Out, Go, on_go}
use Rattle.store_model.specs.Abstract.Effects as free
use Rattle.store_model.specs.Abstract.Effects.{AbstractState, presence, with_presence, may_use, when, watched_at, acted, unless_never, operand_used}
use Rattle.store_model.specs.Abstract.Presence.{Presence, is_present, after_action}
use Rattle.store_model.specs.Places.Place.{Place, place_ty, is_reference}
use Rattle.store_model.specs.Places.TypeForms.{is_never, is_dyn}
use Rattle.store_model.specs.Concrete.Effects.{or_stuck, whole_at, evaluate_operand}
use Rattle.store_model.specs.Concrete.Location.{Setting, DynamicType, OfType, Located, stored_at}
use Rattle.store_model.specs.Concrete.State.{State, cell}
use Rattle.soundness_values.proofs.Doing.{FollowsOut, refused, out_after}
use Rattle.soundness_values.specs.Typed.{is_aggregate, number_fits}
use Rattle.soundness_values.proofs.Feeding.{fed}
use Rattle.soundness_values.proofs.Fits.{Fits}
use Rattle.soundness_values.proofs.Sealed.{Sealed}
use Rattle.soundness_values.proofs.Ways.{has_index, fits_changed}
use Rattle.soundness_values.proofs.Along.{path_at, are_plain, IsFound, as_type, as_object}
use Rattle.soundness_values.proofs.Watching.{acted_whole}
use Rattle.soundness_values.proofs.FoundAlike.{fits_alike}
use Rattle.soundness_values.proofs.Facts.{Facts, without}
use Rattle.soundness_values.proofs.Dropped.{feeding}
use Rattle.soundness_values.proofs.Known.{Target}
use Rattle.soundness_values.proofs.Running.{sure_place, Passed, Runs, Lies, in_local, behind, lies}
use Rattle.soundness_values.proofs.Reaching.{stands, Used, used, own_watched}
use Rattle.soundness_values.proofs.Changing.{own_changed}
use Rattle.soundness_values.proofs.Checks.{ty_of, is_value, may_move, takes_well, after_operand}

pub first : (a b : Bool) → (a && b) ≡ true → a ≡ true
first true b h = refl
first false b h = absurd (false≢true h)

pub second : (a b : Bool) → (a && b) ≡ true → b ≡ true
second true b h = h
second false b h = absurd (false≢true h)

pub not_so : (b : Bool) → not b ≡ true → b ≡ false
not_so true h = absurd (false≢true h)
not_so false h = refl

-- a run may end at any point by a second panic, or for want of a tick
abbrev pub MayLapse : Halt → State → Type 0
MayLapse Aborted w = Unit {0}
MayLapse OutOfTicks w = Unit {0}
MayLapse halt w = ⊥

module _ (setting : Setting) (number : ℕ) (targets : List Target) (uniques : List Addr) (base : State)
    (is_target : ℕ → Bool) (passed : Passed setting number targets uniques base is_target) where
  abbrev items : ItemTable
  items = setting.items

  abbrev local_ty : ℕ → Option TyId
  local_ty key = setting.local_ty number key

  abbrev R : State → List (ℕ × Presence) → Facts → Type 0
  R = Runs setting number targets uniques base is_target

  -- a state on values is known by what is present, where these facts hold
  abbrev pub rel : Facts → Relation State AbstractState
  rel facts = fed (List (ℕ × Presence)) feeding (λ w cells. R w cells facts) MayLapse

  -- no value is of type `!`
  pub never_fits : (id : TyId) (d : Datum) → Fits items (OfType id) is_present d →
      is_never (type_at items id) ≡ false
  never_fits id d k = by (type_at items id) refl d k
    where
      by : (o : Option Ty) → type_at items id ≡ o → (d : Datum) → Fits items (OfType id) is_present d →
          is_never o ≡ false
      by None e d k = refl
      by (Some Ty.Never) e Gone k = absurd (false≢true k)
      by (Some Ty.Never) e (Number n) k = absurd (let never : ⊥ = cc in never)
      by (Some Ty.Never) e (Truth truth) k = absurd (let never : ⊥ = cc in never)
      by (Some Ty.Never) e UnitValue k = absurd (let never : ⊥ = cc in never)
      by (Some Ty.Never) e (Aggregate variant serial parts) k =
          absurd (false≢true (sym (ap is_aggregate e) ∙ first (is_aggregate (type_at items id)) _ k.2))
      by (Some Ty.Never) e (Box serial impl_no inside) k = absurd (let never : ⊥ = cc in never)
      by (Some Ty.Never) e (Address address) k = absurd (let never : ⊥ = cc in never)
      by (Some other) e d k = refl

  -- a value of no `dyn` type is found as its type
  pub as_its_type : (end : TyId) (s : Located) → IsFound items end s.dynamic → is_dyn (type_at items end) ≡ false →
      Fits items s.dynamic is_present s.value → Fits items (OfType end) is_present s.value
  as_its_type end s found plain k = by s.dynamic found k
    where
      by : (f : DynamicType) → IsFound items end f → Fits items f is_present s.value →
          Fits items (OfType end) is_present s.value
      by f (as_type _ e _) k = fits_alike items s.value f (OfType end) is_present e k
      by _ (as_object impl_no h i) k = absurd (false≢true (sym plain ∙ h))

  -- ---- what is known of the value of an operand

  pub data ValueOf : Operand → Datum → Type 0 where
    of_copied : (site : EffectSite) (end : TyId) (d : Datum) → place_ty items local_ty site.place ≡ Some end →
        Fits items (OfType end) is_present d → ValueOf (effects.Copied site) d
    of_moved : (site : EffectSite) (end : TyId) (d : Datum) → place_ty items local_ty site.place ≡ Some end →
        Fits items (OfType end) is_present d → ValueOf (effects.Moved site) d
    of_number : (value : ℤ) (kind : IntKind) → number_fits kind value ≡ true → ValueOf (effects.Number value kind)
        (Number value)
    of_truth : (value : Bool) → ValueOf (effects.Truth value) (Truth value)
    of_unit : ValueOf effects.UnitValue UnitValue

  abbrev S : Facts → Place → Bool
  S = sure_place items local_ty is_target

  module _ (w : State) (cells : List (ℕ × Presence)) (facts : Facts) (runs : R w cells facts) where
    -- a use of a place in a free run, and in one on values
    pub using_follows : (goal : Facts) (site : EffectSite) (w0 : State) (next : Located → Out State)
        (next' : AbstractState → Out AbstractState) (more : AbstractState → Out AbstractState)
        (s : S facts site.place ≡ true) →
        ((u : Used setting number targets uniques base is_target passed w cells facts runs site.place s) →
        FollowsOut (rel goal) tt (next u.at.standing) (λ t. on_go (next' (feeding t cells)) more)) →
        FollowsOut (rel goal) tt (or_stuck (whole_at setting w site) next w0)
        (λ t. on_go (free.using items local_ty site next' (feeding t cells)) more)
    using_follows goal site w0 next next' more s then_follows =
        by (may_use (watched_at items local_ty site) (presence site.place.local cells)) refl
      where
        by : (b : Bool) → may_use (watched_at items local_ty site) (presence site.place.local cells) ≡ b →
            FollowsOut (rel goal) tt (or_stuck (whole_at setting w site) next w0)
            (λ t. on_go (free.using items local_ty site next' (feeding t cells)) more)
        by false e = refused tt _ (BadUse site) cells [] _ tt
            (λ rest. ap (λ b. on_go (when b (BadUse site) next' (feeding rest cells)) more) e)
        by true e =
            let u = used setting number targets uniques base is_target passed w cells facts runs site.place s
            site.node e in
            subst (λ o. FollowsOut (rel goal) tt o
            (λ t. on_go (free.using items local_ty site next' (feeding t cells)) more))
            (sym (ap (λ o. or_stuck o next w0) u.is_used))
            (out_after (rel goal) [] _
            (λ rest. ap (λ b. on_go (when b (BadUse site) next' (feeding rest cells)) more) e) (then_follows u))

    -- ---- operands

    sure_of : (place : Place) (a b : Bool) → (S facts place && (a && b)) ≡ true →
        (S facts place ≡ true) × ((a ≡ true) × (b ≡ true))
    sure_of place a b h = (
      first (S facts place) (a && b) h,
      (first a b (second (S facts place) (a && b) h), second a b (second (S facts place) (a && b) h)),
    )

    pub sized : (place : Place) (end : TyId) → place_ty items local_ty place ≡ Some end →
        is_value items local_ty is_target place ≡ true → is_dyn (type_at items end) ≡ false
    sized place end e v = sym (ap (λ o. is_dyn (option_and_then (type_at items) o)) e)
        ∙ not_so (is_dyn (ty_of items local_ty is_target place))
        (second (not (is_reference (ty_of items local_ty is_target place)))
        (not (is_dyn (ty_of items local_ty is_target place))) v)

    pub never_false : (site : EffectSite) (end : TyId) (d : Datum) → place_ty items local_ty site.place ≡ Some end →
        Fits items (OfType end) is_present d → free.never_at items local_ty site ≡ false
    never_false site end d e k = ap (λ o. is_never (option_and_then (type_at items) o)) e ∙ never_fits end d k

    -- what is moved is gone from a place of a local
    module _ (site : EffectSite) (s : S facts site.place ≡ true)
        (moves : may_move items local_ty is_target site.place ≡ true) where
      no_target : is_target site.place.local ≡ false
      no_target = not_so (is_target site.place.local)
          (first (not (is_target site.place.local)) (not (has_index site.place.steps))
          (first (not (is_target site.place.local) && not (has_index site.place.steps)) _ moves))

      no_index : has_index site.place.steps ≡ false
      no_index = not_so (has_index site.place.steps)
          (second (not (is_target site.place.local)) (not (has_index site.place.steps))
          (first (not (is_target site.place.local) && not (has_index site.place.steps)) _ moves))

      plain_along : (id : TyId) → local_ty site.place.local ≡ Some id → are_plain items site.place.steps id ≡ true
      plain_along id e = subst (λ o. option_map_or (are_plain items site.place.steps) o false ≡ true) e
          (second (not (is_target site.place.local) && not (has_index site.place.steps)) _ moves)

      -- the place becomes gone, which stands so
      pub taken : (l : Lies setting number targets uniques base is_target passed w cells facts runs site.place) →
          R (stored_at (stands setting number targets uniques base is_target passed w cells facts runs site.place
          l).standing.address Gone w)
          (with_presence site.place.local (acted true (watched_at items local_ty site)) cells)
          (without site.place facts)
      unfolding stands
      taken (behind n t at same steps is sure lead) =
          absurd (false≢true (sym no_target ∙ subst (λ l. is_target l ≡ true) same (passed.is_param n t at)))
      taken (in_local id typed none own sure lead) =
          let there : R (stored_at
          (record {
            depth = length runs.known.older;
            key = (record { 0 = site.place.local });
            path =
                path_at runs.known.held site.place.steps;
          }) Gone w)
          (with_presence site.place.local (acted true (watched_at items local_ty site)) cells)
          (without site.place facts) =
          own_changed setting number targets uniques base is_target passed w cells facts runs site.place own id typed
          Gone (acted true (watched_at items local_ty site))
          (subst (λ q. Fits items (OfType id) q
          (replaced (path_at runs.known.held site.place.steps) Gone (cell site.place.local runs.known.held)))
          (sym (ap (λ x. acted true x (presence site.place.local cells))
          (own_watched setting number targets uniques base is_target passed w cells facts runs site.place s
          site.node no_target) ∙ acted_whole true site.place.steps (presence site.place.local cells) no_index))
          (subst (λ p. Fits items (OfType id) (after_action true site.place.steps (presence site.place.local cells))
          (replaced p Gone (cell site.place.local runs.known.held))) lead.path_is
          (fits_changed items true (presence site.place.local cells) Gone lead.way no_index
          (runs.known.fits site.place.local id typed) refl)))
          (subst (λ p. Sealed (replaced p Gone (cell site.place.local runs.known.held))) lead.path_is
          (lead.takes (plain_along id typed) (runs.sealed site.place.local))) in
          subst (λ p. R (stored_at
          (record { depth = length runs.known.older; key = (record { 0 = site.place.local }); path = p }) Gone w)
          (with_presence site.place.local (acted true (watched_at items local_ty site)) cells)
          (without site.place facts)) (sym lead.path_is) there

    pub operand_follows : (goal : Facts) (operand : Operand) (w0 : State) (next : Datum → State → Out State)
        (more : AbstractState → Out AbstractState) → takes_well items local_ty is_target facts operand ≡ true →
        ((d : Datum) (v : State) (cells' : List (ℕ × Presence)) → ValueOf operand d →
        R v cells' (after_operand items local_ty is_target operand facts) → FollowsOut (rel goal) tt (next d v)
        (λ t. more (feeding t cells'))) →
        FollowsOut (rel goal) tt
        (or_stuck {A = Datum × State} (evaluate_operand setting operand w) (λ t. next t.0 t.1) w0)
        (λ t. on_go (operand_used items local_ty operand (feeding t cells)) more)
    operand_follows goal (effects.Number value kind) w0 next more h f =
        f (Number value) w cells (of_number value kind h) runs
    operand_follows goal (effects.Truth value) w0 next more h f = f (Truth value) w cells (of_truth value) runs
    operand_follows goal effects.UnitValue w0 next more h f = f UnitValue w cells of_unit runs
    operand_follows goal (effects.Copied site) w0 next more h f =
        let s = sure_of site.place (is_value items local_ty is_target site.place) _ h in
        subst (λ o. FollowsOut (rel goal) tt o
        (λ t. on_go (operand_used items local_ty (effects.Copied site) (feeding t cells)) more))
        (copied_is (whole_at setting w site))
        (using_follows goal site w0 (λ u. next u.value w)
        (unless_never items local_ty (free.never_at items local_ty site)) more s.0
        (λ u.
        let fit = as_its_type u.at.end u.at.standing u.at.as_end (sized site.place u.at.end u.at.end_is s.1.0)
        u.fits in
        out_after (rel goal) [] _ (λ rest. ap (λ b. on_go (unless_never items local_ty b (feeding rest cells)) more)
        (never_false site u.at.end u.at.standing.value u.at.end_is fit))
        (f u.at.standing.value w cells (of_copied site u.at.end u.at.standing.value u.at.end_is fit) runs)))
      where
        copied_is : (o : Option Located) → or_stuck o (λ u. next u.value w) w0 ≡ or_stuck {A = Datum × State}
            (option_map_or (λ u. Some (u.value, w)) o None) (λ t. next t.0 t.1) w0
        copied_is None = refl
        copied_is (Some u) = refl
    operand_follows goal (effects.Moved site) w0 next more h f =
        let s = sure_of site.place (is_value items local_ty is_target site.place)
        (may_move items local_ty is_target site.place) h in
        subst (λ o. FollowsOut (rel goal) tt o
        (λ t. on_go (operand_used items local_ty (effects.Moved site) (feeding t cells)) more))
        (moved_is (whole_at setting w site))
        (using_follows goal site w0 (λ u. next u.value (stored_at u.address Gone w))
        (λ v. Go (free.after items local_ty true site v)) more s.0
        (λ u.
        let fit = as_its_type u.at.end u.at.standing u.at.as_end (sized site.place u.at.end u.at.end_is s.1.0)
        u.fits in
        f u.at.standing.value (stored_at u.at.standing.address Gone w)
        (with_presence site.place.local (acted true (watched_at items local_ty site)) cells)
        (of_moved site u.at.end u.at.standing.value u.at.end_is fit)
        (subst (λ (x : Located). R (stored_at x.address Gone w)
        (with_presence site.place.local (acted true (watched_at items local_ty site)) cells)
        (without site.place facts)) u.same (taken site s.0 s.1.1 u.lies))))
      where
        moved_is : (o : Option Located) → or_stuck o (λ u. next u.value (stored_at u.address Gone w)) w0
            ≡ or_stuck {A = Datum × State} (option_map_or (λ u. Some (u.value, stored_at u.address Gone w)) o None)
            (λ t. next t.0 t.1) w0
        moved_is None = refl
        moved_is (Some u) = refl
