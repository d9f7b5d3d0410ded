-- The actions of a checked run one by one: what each stores is of the type of its place, and it follows that of a
-- free run.
use Rattle.std.proofs.Common.{◌≡◌, ℕ, ℤ, ◌&&◌, ◌||◌, not, Bool, true, false, List, [], Option, Some, None, refl, ap, sym, ◌∙◌, subst}
use Rattle.std.specs.Prelude.{option_and_then}
use Rattle.std.specs.Option.{option_map_or}
use Rattle.std.proofs.lemmas.Bool.{false≢true}
use Rattle.std.proofs.lemmas.Option.{none-some}
use Rattle.std.proofs.Math.Path.{fun_ext}
use Rattle.mir_base.specs.declared.int_kind.IntKind.{IntKind}
use Rattle.mir_base.specs.declared.operator.Cmp.{Cmp}
use Rattle.mir_base.specs.declared.trace.Event.{Event}
use Rattle.mir_ty.specs.declared.ty.Ty.{Ty}
use Rattle.mir_ty.specs.declared.ty.TyId.{TyId}
use Rattle.mir_ty.specs.ItemTable.{ItemTable, type_at}
use Rattle.store_model.proofs.Effects.Following.{Relation}
use Rattle.store_model.specs.declared.address.Addr.{Addr}
use Rattle.store_model.specs.declared.address.At.TheVariants.{Inside}
use Rattle.store_model.specs.Values.Datum.{Datum, Gone, Number, Truth, Box}
use Rattle.store_model.specs.Effects as effects
use Rattle.store_model.specs.Effects.{EffectSite, Operand, Out, Go, Unwind, Halts, on_go}
use Rattle.store_model.specs.Abstract.Effects as free
use Rattle.store_model.specs.Abstract.Effects.{AbstractState}
use Rattle.store_model.specs.Abstract.Presence.{Presence, is_present}
use Rattle.store_model.specs.Places.Place.{Place, place_ty}
use Rattle.store_model.specs.Places.TypeForms.{is_never, is_bool, is_int, is_dyn, box_content, are_compared, same_int}
use Rattle.store_model.specs.Concrete.Effects as values
use Rattle.store_model.specs.Concrete.Effects.{put, put_if, compared, act, tell_after}
use Rattle.store_model.specs.Concrete.Location.{Setting, OfType, type_of_part}
use Rattle.store_model.specs.Concrete.State.{State, Bodies, with_event, numbered_next}
use Rattle.soundness_values.proofs.Doing.{FollowsOut, goes_on, unwinds, lapsed, refused}
use Rattle.soundness_values.specs.Typed.{is_impl_for}
use Rattle.soundness_values.proofs.Fits.{Fits}
use Rattle.soundness_values.proofs.Facts.{Facts, without}
use Rattle.soundness_values.proofs.Dropped.{feeding}
use Rattle.soundness_values.proofs.Known.{Target}
use Rattle.soundness_values.proofs.Running.{sure_place, Passed, Runs}
use Rattle.soundness_values.proofs.Changing.{runs_alike}
use Rattle.soundness_values.proofs.Checks.{id_of, ty_of, is_of, form_of, is_value, may_change, is_empty, may_store, stores_as, takes_well, after_operand, acts_well}
use Rattle.soundness_values.proofs.Standings.{alike_itself}
use Rattle.soundness_values.proofs.Taking.{first, second, not_so, rel, never_fits, ValueOf, using_follows, operand_follows}
use Rattle.soundness_values.proofs.Storing.{put_follows}
use Rattle.soundness_values.proofs.Acting.{bool_is, value_is, value_form, number_value, operand_truth, operand_number, one_stores, two_stores}

-- a test that holds of what is there, if anything is
pub some_id : {A : Type 0} (o : Option A) (test : A → Bool) → option_map_or test o false ≡ true →
    (a : A) × ((o ≡ Some a) × (test a ≡ true))
some_id None test h = absurd (false≢true h)
some_id (Some a) test h = (a, (refl, h))

id_with : {A B : Type 0} (f : A → Option B) (o : Option A) (b : B) → option_and_then f o ≡ Some b →
    (a : A) × ((o ≡ Some a) × (f a ≡ Some b))
id_with f None b h = absurd (none-some b h)
id_with f (Some a) b h = (a, (refl, h))

module _ (setting : Setting) (number : ℕ) (targets : List Target) (uniques : List Addr) (base : State)
    (is_target : ℕ → Bool) (passed : Passed setting number targets uniques base is_target) where
  abbrev items : ItemTable
  items = setting.items

  abbrev local_ty : ℕ → Option TyId
  local_ty key = setting.local_ty number key

  abbrev R : State → List (ℕ × Presence) → Facts → Type 0
  R = Runs setting number targets uniques base is_target

  abbrev rels : Facts → Relation State AbstractState
  rels = rel setting number targets uniques base is_target passed

  abbrev S : Facts → Place → Bool
  S = sure_place items local_ty is_target

  abbrev after : Operand → Facts → Facts
  after = after_operand items local_ty is_target

  abbrev takes : Facts → Operand → Bool
  takes = takes_well items local_ty is_target

  -- what is told changes nothing that is known
  pub follows_told : (goal : Facts) (event : Event) {o : Out State} {g : List Bool → Out AbstractState} →
      FollowsOut (rels goal) tt o g → FollowsOut (rels goal) tt (tell_after setting event o) g
  follows_told goal event (goes_on n w c l g k d) = goes_on n (with_event event w) c l g
      (runs_alike setting number targets uniques base is_target passed w (with_event event w) c goal k
      (alike_itself w.activations)) d
  follows_told goal event (unwinds n w c l g k d) = unwinds n w c l g k d
  follows_told goal event (lapsed n halt w g k) = lapsed n halt w g k
  follows_told goal event (refused n o halt c l g k d) = refused n _ halt c l g k d

  -- the parts of the test of a store
  pub record Stores (facts : Facts) (cells : List (ℕ × Presence)) (place : Place) : Type 0 where
    pub sure : S facts place ≡ true
    pub changes : (is_value items local_ty is_target place && may_change items local_ty is_target place) ≡ true
    pub empty : is_empty items local_ty is_target cells place ≡ true

  pub stores_well : (facts : Facts) (cells : List (ℕ × Presence)) (place : Place) →
      may_store items local_ty is_target facts cells place ≡ true → Stores facts cells place
  stores_well facts cells place h =
      let rest = second (S facts place)
      ((is_value items local_ty is_target place && may_change items local_ty is_target place)
      && is_empty items local_ty is_target cells place) h in
      record {
        sure = first (S facts place)
            ((is_value items local_ty is_target place && may_change items local_ty is_target place)
            && is_empty items local_ty is_target cells place) h;
        changes = first (is_value items local_ty is_target place && may_change items local_ty is_target place)
            (is_empty items local_ty is_target cells place) rest;
        empty = second (is_value items local_ty is_target place && may_change items local_ty is_target place)
            (is_empty items local_ty is_target cells place) rest;
      }

  bool_never : (id : TyId) → is_bool (type_at items id) ≡ true → is_never (type_at items id) ≡ false
  bool_never id h = ap is_never (bool_is setting number targets uniques base is_target passed (type_at items id) h)

  module _ (run : Bodies) (w : State) (cells : List (ℕ × Presence)) (facts : Facts) (runs : R w cells facts) where
    -- a value is stored in a state that is known
    pub puts : (known : Facts) (to : EffectSite) (end : TyId) → place_ty items local_ty to.place ≡ Some end →
        S known to.place ≡ true →
        (is_value items local_ty is_target to.place && may_change items local_ty is_target to.place) ≡ true →
        (d : Datum) (v : State) (cells' : List (ℕ × Presence)) → Fits items (OfType end) is_present d →
        R v cells' known → FollowsOut (rels (without to.place known)) tt (put setting to d v)
        (λ t. free.store items local_ty to (feeding t cells'))
    puts known to end e s v d u cells' fit r = put_follows setting number targets uniques base is_target passed u
        cells' known r to end d s v e fit

    pub put_acts : (to : EffectSite) (from : Operand) → acts_well items local_ty is_target facts cells
        (effects.Put to from) ≡ true →
        FollowsOut (rels (without to.place (after from facts))) tt (act setting run (effects.Put to from) w)
        (λ t. free.act items local_ty (effects.Put to from) (feeding t cells))
    put_acts to from h =
        let st = stores_well (after from facts) cells to.place
        (first (may_store items local_ty is_target (after from facts) cells to.place) _ h) in
        let rest = second (may_store items local_ty is_target (after from facts) cells to.place) _ h in
        let id = some_id (id_of items local_ty is_target to.place) (is_of items local_ty is_target from)
        (second (takes facts from) _ rest) in
        one_stores setting number targets uniques base is_target passed w cells facts runs
        (without to.place (after from facts)) to id.0 id.1.0 from (first (takes facts from) _ rest)
        (put setting to)
        (λ d v cells' value r.
        let fit = value_is setting number targets uniques base is_target passed from d id.0 value id.1.1 in (
          never_fits setting number targets uniques base is_target passed id.0 d fit,
          puts
              (after from facts) to id.0 id.1.0 st.sure st.changes d v cells' fit r,
        ))

    -- a store at a place of a form of type
    pub record FormedAt (to : EffectSite) (ty : Ty) : Type 0 where
      pub end : TyId
      pub is_at : place_ty items local_ty to.place ≡ Some end
      pub is_ty : type_at items end ≡ Some ty

    pub formed_at : (to : EffectSite) (ty : Ty) → ty_of items local_ty is_target to.place ≡ Some ty → FormedAt to ty
    formed_at to ty h = let i = id_with (type_at items) (id_of items local_ty is_target to.place) ty h in
        record { end = i.0; is_at = i.1.0; is_ty = i.1.1 }

    truth_fits : (end : TyId) → type_at items end ≡ Some Ty.Bool → (truth : Bool) →
        Fits items (OfType end) is_present (Truth truth)
    truth_fits end e truth = (refl, ap is_bool e)

    pub not_acts : (to : EffectSite) (operand : Operand) → acts_well items local_ty is_target facts cells
        (effects.Not to operand) ≡ true →
        FollowsOut (rels (without to.place (after operand facts))) tt (act setting run (effects.Not to operand) w)
        (λ t. free.act items local_ty (effects.Not to operand) (feeding t cells))
    not_acts to operand h =
        let stores = first (stores_as items local_ty is_target (after operand facts) cells to is_bool) _ h in
        let st = stores_well (after operand facts) cells to.place
        (first (may_store items local_ty is_target (after operand facts) cells to.place) _ stores) in
        let rest = second (stores_as items local_ty is_target (after operand facts) cells to is_bool) _ h in
        let at = formed_at to Ty.Bool
        (bool_is setting number targets uniques base is_target passed (ty_of items local_ty is_target to.place)
        (second (may_store items local_ty is_target (after operand facts) cells to.place) _ stores)) in
        one_stores setting number targets uniques base is_target passed w cells facts runs
        (without to.place (after operand facts)) to at.end at.is_at operand (first (takes facts operand) _ rest)
        (λ d. put_if setting to (values.negated setting d))
        (λ d v cells' value r.
        let truth = operand_truth setting number targets uniques base is_target passed operand d value
        (second (takes facts operand) _ rest) in (
          ap is_never at.is_ty,
          subst (λ x. FollowsOut (rels (without to.place (after operand facts))) tt
              (put_if setting to (values.negated setting x) v) (λ t. free.store items local_ty to (feeding t cells')))
              (sym truth.1)
              (puts (after operand facts) to at.end at.is_at st.sure st.changes (Truth (not truth.0)) v cells'
              (truth_fits at.end at.is_ty (not truth.0)) r),
        ))

    -- operands that may be compared give a truth value
    comparable : (operator : Cmp) (left right : Operand) (a b : Datum) →
        ValueOf setting number targets uniques base is_target passed left a →
        ValueOf setting number targets uniques base is_target passed right b →
        are_compared (form_of items local_ty is_target left) (form_of items local_ty is_target right) ≡ true →
        (truth : Bool) × (compared operator a b ≡ Some truth)
    comparable operator left right a b x y h = by (form_of items local_ty is_target left) refl
        (same_int (form_of items local_ty is_target left) (form_of items local_ty is_target right)) refl h
      where
        numbers : (kind : IntKind) → form_of items local_ty is_target left ≡ Some (Ty.Int kind) →
            is_int kind (form_of items local_ty is_target right) ≡ true →
            (truth : Bool) × (compared operator a b ≡ Some truth)
        numbers kind e k =
            let n = number_value_of left a kind x e in
            let m = operand_number setting number targets uniques base is_target passed right b kind y k in (
              values.compared_numbers operator n.0 m.0,
              ap (λ d. compared operator d b) n.1
                  ∙ ap (compared operator (Number n.0)) m.1.0,
            )
          where
            number_value_of : (operand : Operand) (d : Datum) (kind : IntKind) →
                ValueOf setting number targets uniques base is_target passed operand d →
                form_of items local_ty is_target operand ≡ Some (Ty.Int kind) → (value : ℤ) × (d ≡ Number value)
            number_value_of operand d kind v e = let n = number_value setting number targets uniques base is_target
                passed d kind (value_form setting number targets uniques base is_target passed operand d
                (Ty.Int kind) v e) in (n.0, n.1.0)

        truths : is_bool (form_of items local_ty is_target left) ≡ true →
            is_bool (form_of items local_ty is_target right) ≡ true →
            (truth : Bool) × (compared operator a b ≡ Some truth)
        truths e k =
            let n = operand_truth setting number targets uniques base is_target passed left a x e in
            let m = operand_truth setting number targets uniques base is_target passed right b y k in (
              values.compared_numbers operator (values.number_of_truth n.0) (values.number_of_truth m.0),
              ap (λ d. compared operator d b) n.1 ∙ ap (compared operator (Truth n.0)) m.1,
            )

        of_int : (o : Option Ty) → form_of items local_ty is_target left ≡ o →
            same_int o (form_of items local_ty is_target right) ≡ true →
            (truth : Bool) × (compared operator a b ≡ Some truth)
        of_int (Some (Ty.Int kind)) e k = numbers kind e k
        of_int None e k = absurd (false≢true k)
        of_int (Some other) e k = absurd (false≢true k)

        by : (o : Option Ty) → form_of items local_ty is_target left ≡ o → (c : Bool) →
            same_int (form_of items local_ty is_target left) (form_of items local_ty is_target right) ≡ c →
            (c || (is_bool (form_of items local_ty is_target left) && is_bool
            (form_of items local_ty is_target right))) ≡ true →
            (truth : Bool) × (compared operator a b ≡ Some truth)
        by o e true k h = of_int o e (subst (λ x. same_int x (form_of items local_ty is_target right) ≡ true) e k)
        by o e false k h = truths (first (is_bool (form_of items local_ty is_target left)) _ h)
            (second (is_bool (form_of items local_ty is_target left)) _ h)

    pub compare_acts : (to : EffectSite) (operator : Cmp) (left right : Operand) →
        acts_well items local_ty is_target facts cells (effects.Compare to operator left right) ≡ true →
        FollowsOut (rels (without to.place (after right (after left facts)))) tt
        (act setting run (effects.Compare to operator left right) w)
        (λ t. free.act items local_ty (effects.Compare to operator left right) (feeding t cells))
    compare_acts to operator left right h =
        let known = after right (after left facts) in
        let stores = first (stores_as items local_ty is_target known cells to is_bool) _ h in
        let st = stores_well known cells to.place
        (first (may_store items local_ty is_target known cells to.place) _ stores) in
        let rest = second (stores_as items local_ty is_target known cells to is_bool) _ h in
        let more = second (takes facts left) _ rest in
        let at = formed_at to Ty.Bool
        (bool_is setting number targets uniques base is_target passed (ty_of items local_ty is_target to.place)
        (second (may_store items local_ty is_target known cells to.place) _ stores)) in
        two_stores setting number targets uniques base is_target passed w cells facts runs
        (without to.place known) to at.end at.is_at (ap is_never at.is_ty) left right
        (first (takes facts left) _ rest) (first (takes (after left facts) right) _ more)
        (λ a b. put_if setting to (option_map_or (λ t. Some (Truth t)) (compared operator a b) None))
        (free.store items local_ty to)
        (λ a b v cells' x y r.
        let truth = comparable operator left right a b x y (second (takes (after left facts) right) _ more) in
        subst (λ o. FollowsOut (rels (without to.place known)) tt
        (put_if setting to (option_map_or (λ t. Some (Truth t)) o None) v)
        (λ t. free.store items local_ty to (feeding t cells'))) (sym truth.1)
        (puts known to at.end at.is_at st.sure st.changes (Truth truth.0) v cells'
        (truth_fits at.end at.is_ty truth.0) r))

    -- a box gets the next number
    pub box_acts : (to : EffectSite) (content : Operand) → acts_well items local_ty is_target facts cells
        (effects.NewBox to content) ≡ true →
        FollowsOut (rels (without to.place (after content facts))) tt (act setting run (effects.NewBox to content) w)
        (λ t. free.act items local_ty (effects.NewBox to content) (feeding t cells))
    box_acts to content h =
        let known = after content facts in
        let st = stores_well known cells to.place
        (first (may_store items local_ty is_target known cells to.place) _ h) in
        let rest = second (may_store items local_ty is_target known cells to.place) _ h in
        let inside = some_id (box_content (ty_of items local_ty is_target to.place))
        (λ id. is_of items local_ty is_target content id && not (is_dyn (type_at items id)))
        (second (takes facts content) _ rest) in
        let at = formed_at to (Ty.Boxed inside.0)
        (boxed_is (ty_of items local_ty is_target to.place) inside.0 inside.1.0) in
        one_stores setting number targets uniques base is_target passed w cells facts runs
        (without to.place known) to at.end at.is_at content (first (takes facts content) _ rest)
        (values.boxed setting to)
        (λ d v cells' value r.
        let fit = value_is setting number targets uniques base is_target passed content d inside.0 value
        (first (is_of items local_ty is_target content inside.0) _ inside.1.1) in (
          ap is_never at.is_ty,
          follows_told (without to.place known) (Event.Boxed v.serial)
              (puts known to at.end at.is_at st.sure st.changes (Box v.serial None d) (numbered_next v) cells'
              (box_fits at.end inside.0 at.is_ty
              (not_so (is_dyn (type_at items inside.0))
              (second (is_of items local_ty is_target content inside.0) _ inside.1.1)) d v.serial fit)
              (runs_alike setting number targets uniques base is_target passed v (numbered_next v) cells' known r
              (alike_itself v.activations))),
        ))
      where
        boxed_is : (o : Option Ty) (id : TyId) → box_content o ≡ Some id → o ≡ Some (Ty.Boxed id)
        boxed_is (Some (Ty.Boxed x)) id e = let same : x ≡ id = cc in ap (λ y. Some (Ty.Boxed y)) same
        boxed_is None id e = absurd (none-some id e)
        boxed_is (Some other) id e = absurd (none-some id e)

        box_fits : (end id : TyId) → type_at items end ≡ Some (Ty.Boxed id) → is_dyn (type_at items id) ≡ false →
            (d : Datum) (serial : ℕ) → Fits items (OfType id) is_present d → Fits items (OfType end) is_present
            (Box serial None d)
        box_fits end id e plain d serial fit =
            let content : box_content (type_at items end) ≡ Some id = ap box_content e in
            let is_found : type_of_part items Inside (Box serial None Gone) (OfType end) ≡ Some (OfType id) = cc in
            (refl, (id, content, sym plain, not_object (type_at items id)), (OfType id, is_found, fit))
          where
            not_object : (o : Option Ty) → is_impl_for items o None ≡ true
            not_object None = refl
            not_object (Some (Ty.Dyn n)) = refl
            not_object (Some other) = refl

    -- ---- actions that store nothing

    pub print_acts : (operand : Operand) → acts_well items local_ty is_target facts cells (effects.Print operand)
        ≡ true →
        FollowsOut (rels (after operand facts)) tt (act setting run (effects.Print operand) w)
        (λ t. free.act items local_ty (effects.Print operand) (feeding t cells))
    print_acts operand h =
        operand_follows setting number targets uniques base is_target passed w cells facts runs
        (after operand facts) operand w (values.printed setting) (λ v. Go v) (first (takes facts operand) _ h)
        (λ d v cells' value r.
        let n = operand_number setting number targets uniques base is_target passed operand d IntKind.I32 value
        (second (takes facts operand) _ h) in
        subst (λ x. FollowsOut (rels (after operand facts)) tt (values.printed setting x v)
        (λ t. Go (feeding t cells'))) (sym n.1.0)
        (goes_on tt (with_event (Event.Printed n.0) v) cells' [] _
        (runs_alike setting number targets uniques base is_target passed v (with_event (Event.Printed n.0) v)
        cells' (after operand facts) r (alike_itself v.activations)) (λ rest. refl)))

    pub forget_acts : (operand : Operand) → acts_well items local_ty is_target facts cells (effects.Forget operand)
        ≡ true →
        FollowsOut (rels (after operand facts)) tt (act setting run (effects.Forget operand) w)
        (λ t. free.act items local_ty (effects.Forget operand) (feeding t cells))
    forget_acts operand h =
        operand_follows setting number targets uniques base is_target passed w cells facts runs
        (after operand facts) operand w _ (λ v. Go v) (first (takes facts operand) _ h)
        (λ d v cells' value r. goes_on tt _ cells' [] _
        (runs_alike setting number targets uniques base is_target passed v _ cells' (after operand facts) r
        (alike_itself v.activations)) (λ rest. refl))

    pub touch_acts : (site : EffectSite) → acts_well items local_ty is_target facts cells (effects.Touch site)
        ≡ true →
        FollowsOut (rels facts) tt (act setting run (effects.Touch site) w)
        (λ t. free.act items local_ty (effects.Touch site) (feeding t cells))
    touch_acts site h =
        subst (λ (g : List Bool → Out AbstractState). FollowsOut (rels facts) tt
        (act setting run (effects.Touch site) w) g)
        (fun_ext (λ t. going (free.using items local_ty site Go (feeding t cells))))
        (using_follows setting number targets uniques base is_target passed w cells facts runs facts site w
        (λ s. Go w) (λ v. Go v) (λ v. Go v) h (λ u. goes_on tt w cells [] _ runs (λ rest. refl)))
      where
        going : (o : Out AbstractState) → on_go o (λ v. Go v) ≡ o
        going (Go v) = refl
        going (Unwind v) = refl
        going (Halts halt v) = refl
